-- What the parts of a verification promise each other.
use Rattle.std.specs.Prelude.{◌≡◌, ◌⊎◌, ◌↔◌, ℕ, ◌<◌, ◌≤◌, Result, Ok, Err, Vec, length}
use Rattle.std.specs.declared.alloc.Global.{Global}
use Rattle.grain_flat.specs.Flat.{Pooled}
use Rattle.grain_flat.specs.Work.{work_of}
use Rattle.grain_flat.specs.declared.records.CProgram.{CProgram}
use Rattle.grain_c.specs.declared.status.TheConstants.{ACCEPTED, SHORT, NOT_FLAT, TOO_MUCH_WORK}

-- if depths are found, the program is accepted
abbrev pub status_of : Result (Vec ℕ Global) ℕ → ℕ
status_of (Ok depths) = ACCEPTED
status_of (Err status) = status

-- what a call answers before any verification, if it does
pub record IsBar (limit : ℕ) (program : CProgram) (room : ℕ) (status : ℕ) : Type 0 where
  pub not_flat : (status ≡ NOT_FLAT) ↔ (Pooled program.pools → ⊥)
  pub short : (status ≡ SHORT) ↔ (Pooled program.pools × (room < length program.chunks.now))
  pub limited : (status ≡ TOO_MUCH_WORK) ↔ (Pooled program.pools × (length program.chunks.now ≤ room) × (limit < work_of program.code.now program.chunks.now))
  pub one_of : (status ≡ NOT_FLAT) ⊎ (status ≡ SHORT) ⊎ (status ≡ TOO_MUCH_WORK)

-- nothing bars a verification
pub record IsClear (limit : ℕ) (program : CProgram) (room : ℕ) : Type 0 where
  pub pooled : Pooled program.pools
  pub fits : length program.chunks.now ≤ room
  pub within : work_of program.code.now program.chunks.now ≤ limit
