-- What calls on program files answer.
use Rattle.std.specs.Prelude.{◌≡◌, ◌≢◌, ◌⊎◌, ◌<◌, ℕ, List, Option, Some, None, length}
use Rattle.grain.specs.Program.{Program}
use Rattle.grain_base.specs.CapBits.{missing}
use Rattle.grain_c.specs.Answers.{IsAnswer, WritesDepths}
use Rattle.grain_c.specs.declared.status.TheConstants.{ACCEPTED, REFUSED, OUT_OF_MEMORY, MALFORMED, TOO_LONG, BAD_LIMIT}
use Rattle.grain_file.specs.Causes.{IsReadCause}
use Rattle.grain_file.specs.Loading.{IsFileOf}
use Rattle.grain_file.specs.declared.file.Limits.{Limits}
use Rattle.grain_file.specs.declared.file.ReadError.{ReadError}
use Rattle.grain_file.specs.declared.file.ReadError.TheVariants as errors
use Rattle.grain_file.specs.declared.file.TheConstants.{MAX_DEPTH}
use Rattle.grain_flat.specs.Lacks.{lack_record}
use Rattle.grain_flat.specs.declared.records.CReport.{CReport}
use Rattle.grain_flat_file.specs.Errors.{read_error_record}
use Rattle.grain_flat_file.specs.declared.loading.FileStop.{FileStop}
use Rattle.grain_flat_file.specs.declared.loading.FileStop.TheVariants as stops
use Rattle.grain_flat_file.specs.declared.records.CContents.{CContents}
use Rattle.grain_flat_file.specs.declared.records.CLimits.{CLimits}
use Rattle.grain_flat_file.specs.declared.records.CReadError.{CReadError}

abbrev pub limits_of : CLimits → Limits
limits_of l = record { size = l.size; depth = l.depth; cases = l.cases }

abbrev pub IsReadStop : Option CReadError → CReadError → CReadError → ℕ → Type 0
IsReadStop None old new status = (status ≡ OUT_OF_MEMORY) × (new ≡ old)
IsReadStop (Some said) old new status = (status ≡ MALFORMED) × (new ≡ said)

-- the status of what stopped, and what is written of it
abbrev pub IsStopAnswer : FileStop → CReadError → CReadError → ℕ → Type 0
IsStopAnswer stops.TooLong old new status = (status ≡ TOO_LONG) × (new ≡ old)
IsStopAnswer (stops.Read (errors.DepthLimit depth)) old new status = (status ≡ BAD_LIMIT) × (new ≡ old)
IsStopAnswer (stops.Read errors.OutOfMemory) old new status = IsReadStop (read_error_record errors.OutOfMemory) old new status
IsStopAnswer (stops.Read (errors.TooLarge size limit)) old new status = IsReadStop (read_error_record (errors.TooLarge size limit)) old new status
IsStopAnswer (stops.Read (errors.Malformed at part fault)) old new status = IsReadStop (read_error_record (errors.Malformed at part fault)) old new status

-- What reading answers, beside what it writes of a file.
pub record IsReadAnswer (limits : Limits) (bytes : List ℕ) (old new : CReadError) (status : ℕ) : Type 0 where
  -- why the bytes are no file within the limits
  pub malformed : status ≡ MALFORMED → (e : ReadError) × IsReadCause limits bytes e × (read_error_record e ≡ Some new)
  pub too_long : status ≡ TOO_LONG → (p : Program) × IsFileOf limits bytes p
  pub bad_limit : status ≡ BAD_LIMIT → MAX_DEPTH < limits.depth
  -- whatever the bytes are a file of, that is read, memory and rows apart
  pub only : (p : Program) → IsFileOf limits bytes p → (status ≢ MALFORMED) × (status ≢ BAD_LIMIT)
  pub answers : (status ≡ ACCEPTED) ⊎ (status ≡ OUT_OF_MEMORY) ⊎ (status ≡ MALFORMED) ⊎ (status ≡ TOO_LONG) ⊎ (status ≡ BAD_LIMIT)
  pub error_kept : status ≢ MALFORMED → new ≡ old

-- The host lacks capabilities that the file's program declares, and these are named; nothing is judged.
pub record LacksCaps (contents : CContents) (host : ℕ) (depths written : List ℕ) (old new : CReport) (status : ℕ) : Type 0 where
  pub lacks : missing host contents.caps ≢ 0
  pub status_is : status ≡ REFUSED
  pub report_is : new ≡ record { refusal = lack_record (missing host contents.caps) host; visited = 0 }
  pub depths_kept : written ≡ depths

-- The host has them, and the rest is answered as of any flat form.
pub record HasCaps (contents : CContents) (host limit : ℕ) (depths written : List ℕ) (old new : CReport) (status : ℕ) : Type 0 where
  pub lacks_none : missing host contents.caps ≡ 0
  pub writes : WritesDepths contents.caps contents.program depths written status
  pub answer : IsAnswer contents.caps limit contents.program (length depths) old new status

abbrev pub IsFileAnswer : CContents → ℕ → ℕ → List ℕ → List ℕ → CReport → CReport → ℕ → Type 0
IsFileAnswer contents host limit depths written old new status =
    LacksCaps contents host depths written old new status
    ⊎ HasCaps contents host limit depths written old new status
