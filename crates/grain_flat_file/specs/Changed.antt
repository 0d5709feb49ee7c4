-- Program files that are written again, with chunks that declare their depths or without positions.
use Rattle.std.specs.Prelude.{◌≡◌, ◌<◌, ◌≤◌, ◌^◌, ◌∷◌, ℕ, All, Any, List, length}
use Rattle.grain.specs.Program.{Program, chunks_of, input_of, places_of}
use Rattle.grain_base.specs.AddressTable.{numbers_from}
use Rattle.grain_base.specs.Varint.{AreShortest}
use Rattle.grain.specs.Sidecars.{IsSidecar, IsStripped}
use Rattle.grain.specs.Tightened.{IsTightened}
use Rattle.grain.specs.declared.sidecar.Sidecar.{Sidecar}
use Rattle.grain_bytecode.specs.Positions.{IsRead, entries_at_places}
use Rattle.grain_file.specs.Causes.{IsReadCause}
use Rattle.grain_file.specs.Loading.{IsFileOf}
use Rattle.grain_file.specs.ProgramFile.{Bounds, IsFile, kept}
use Rattle.grain_file.specs.SidecarFile.{IsSidecarFile, sidecar_parts}
use Rattle.grain_file.specs.declared.file.Limits.{Limits}
use Rattle.grain_file.specs.declared.file.ReadError.TheVariants as read_errors
use Rattle.grain_flat.specs.Work.{work_of}
use Rattle.grain_flat_file.specs.declared.changed.Stripped.{Stripped}
use Rattle.grain_flat_file.specs.declared.changed.TightenStop.{TightenStop}
use Rattle.grain_flat_file.specs.declared.changed.TightenStop.TheVariants as tighten_stops
use Rattle.grain_flat_file.specs.declared.changed.StripStop.{StripStop}
use Rattle.grain_flat_file.specs.declared.changed.StripStop.TheVariants as stops
use Rattle.grain_rules.specs.Flaw.{FlawAt}
use Rattle.grain_verify.specs.declared.refusal.Refusal.{Refusal}
use Rattle.grain_verify.specs.Meter.{AreReached, HasCounted, IsWithinAll}

-- some bytes are a file of the program
pub record HasFile (p : Program) : Type 0 where
  pub bounds : Bounds
  pub bytes : List ℕ
  pub is : IsFile bounds bytes (kept p)

-- the bytes are each file that the program has, of which there is no more than one
abbrev pub IsItsFile : Program → List ℕ → Type 0
IsItsFile p written = (bounds : Bounds) (bytes : List ℕ) → IsFile bounds bytes (kept p) → written ≡ bytes

-- ---- chunks that declare their depths

-- how many bytes of its code the chunks of a program span, each counted for itself
abbrev pub program_work : Program → ℕ
program_work p = work_of p.code (chunks_of p)

-- The bytes are a file of an accepted program. What is written is the file of the same program with its chunks tightened, within
-- the same limits and no longer. The meter has counted the places that the chunks reach.
pub record IsTightFile (limits : Limits) (bytes written : List ℕ) (old new : ℕ) : Type 0 where
  pub read : Program
  pub tight : Program
  pub file : IsFileOf limits bytes read
  pub tightened : IsTightened read tight
  pub again : IsFileOf limits written tight
  pub shorter : length written ≤ length bytes
  pub reached : (n : ℕ) × AreReached (input_of read).code (chunks_of read) n × HasCounted old new n

-- The bytes are a file of a program with this flaw, and the meter has counted no more places than its chunks have starts.
pub record IsRefusedFile (limits : Limits) (bytes : List ℕ) (old new : ℕ) (r : Refusal) : Type 0 where
  pub read : Program
  pub file : IsFileOf limits bytes read
  pub flaw : FlawAt (input_of read) r.chunk r.error
  pub within : (n : ℕ) × IsWithinAll (input_of read) n × HasCounted old new n

-- The bytes are no file; or one of a program whose chunks span more than the limit, or that is refused.
abbrev pub IsTightenCause : Limits → List ℕ → ℕ → ℕ → ℕ → TightenStop → Type 0
IsTightenCause limits bytes limit old new (tighten_stops.Read error) = IsReadCause limits bytes error
IsTightenCause limits bytes limit old new tighten_stops.TooMuchWork = (p : Program) × IsFileOf limits bytes p × (limit < program_work p)
IsTightenCause limits bytes limit old new (tighten_stops.Refused r) = IsRefusedFile limits bytes old new r

-- ---- files without positions

-- each address that has a position fits 32 bits
abbrev pub AddressesFit : Program → Type 0
AddressesFit p = All (λ entry. entry.0 < 2 ^ 32) (entries_at_places (places_of p))

-- the table of the program's positions, read with its code, gives just these positions
abbrev pub IsRestorable : Program → Type 0
IsRestorable p =
    let list = entries_at_places (places_of p) in
    (table : List ℕ) → AreShortest table (length list ∷ numbers_from 0 list) → IsRead table p.code (places_of p)

-- the program has a position at an address that is too wide, or positions that can't be given back
abbrev pub IsPositionCause : Program → StripStop → Type 0
IsPositionCause p (stops.Read error) = error ≡ read_errors.OutOfMemory
IsPositionCause p stops.TooLong = Any (λ entry. 2 ^ 32 ≤ entry.0) (entries_at_places (places_of p))
IsPositionCause p stops.NotRestorable = IsRestorable p → ⊥

-- The bytes are a file of a program. What is written is the file of the same program without positions, within the same limits
-- and no longer, and the file of its positions, which can be given back.
pub record AreStrippedFiles (limits : Limits) (bytes : List ℕ) (files : Stripped) : Type 0 where
  pub read : Program
  pub bare : Program
  pub positions : Sidecar
  pub file : IsFileOf limits bytes read
  pub stripped : IsStripped read bare
  pub sidecar : IsSidecar read positions
  pub restores : IsRead positions.positions.items read.code (places_of read)
  pub again : IsFileOf limits files.program.items bare
  pub shorter : length files.program.items ≤ length bytes
  pub apart : IsSidecarFile files.sidecar.items (sidecar_parts positions)

-- the bytes are no file, or one of a program with positions that aren't taken off
abbrev pub IsStripCause : Limits → List ℕ → StripStop → Type 0
IsStripCause limits bytes (stops.Read error) = IsReadCause limits bytes error
IsStripCause limits bytes stops.TooLong = (p : Program) × IsFileOf limits bytes p × IsPositionCause p stops.TooLong
IsStripCause limits bytes stops.NotRestorable = (p : Program) × IsFileOf limits bytes p × IsPositionCause p stops.NotRestorable
