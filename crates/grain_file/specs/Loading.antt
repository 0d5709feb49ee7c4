-- When a file is loaded, and what a refusal says.
use Rattle.std.specs.Prelude.{◌≡◌, ◌≢◌, ℕ, List}
use Rattle.grain_base.specs.CapBits.{missing}
use Rattle.grain.specs.Program.{Program, input_of}
use Rattle.grain_rules.specs.Accepted.{IsAccepted}
use Rattle.grain_rules.specs.Capabilities.{Allows}
use Rattle.grain_verify.specs.Refusals.{IsLocatedRefusal}
use Rattle.grain_rules.specs.declared.error.VerifyError.TheVariants as verify_error
use Rattle.grain_file.specs.declared.file.Limits.{Limits}
use Rattle.grain_file.specs.declared.file.ReadError.TheVariants as read_error
use Rattle.grain_file.specs.declared.loading.LoadError.{LoadError}
use Rattle.grain_file.specs.declared.loading.LoadError.TheVariants as load_error
use Rattle.grain_file.specs.ProgramFile.{IsFileWithin, kept}
use Rattle.grain_file.specs.Causes.{IsReadCause}

-- the bytes are a file of the program, within the limits
abbrev pub IsFileOf : Limits → List ℕ → Program → Type 0
IsFileOf limits bytes p = IsFileWithin limits bytes (kept p)

-- The host has what the program declares, and it is accepted.
pub record IsLoadable (host : ℕ) (p : Program) : Type 0 where
  pub allowed : Allows host p.caps.0
  pub accepted : IsAccepted (input_of p)

-- memory ran out, at one of the steps
abbrev pub IsMemory : LoadError → Type 0
IsMemory (load_error.Read error) = error ≡ read_error.OutOfMemory
IsMemory (load_error.Capabilities absent) = ⊥
IsMemory (load_error.Refused rejected) = rejected.refusal.error ≡ verify_error.OutOfMemory

-- Which test failed: the bytes are no file, or a file of a program that declares what the host lacks, or of the rejected one, which has
-- the flaw that is named.
abbrev pub IsLoadCause : Limits → List ℕ → ℕ → LoadError → Type 0
IsLoadCause limits bytes host (load_error.Read error) = IsReadCause limits bytes error
IsLoadCause limits bytes host (load_error.Capabilities absent) =
    (p : Program) × IsFileOf limits bytes p × (absent.0 ≡ missing host p.caps.0) × (absent.0 ≢ 0)
IsLoadCause limits bytes host (load_error.Refused rejected) =
    IsFileOf limits bytes rejected.program × Allows host rejected.program.caps.0 × IsLocatedRefusal (input_of rejected.program) rejected.refusal
