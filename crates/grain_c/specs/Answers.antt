-- What a verification answers.
use Rattle.std.specs.Prelude.{◌≡◌, ◌≢◌, ◌⊎◌, ◌↔◌, ℕ, ◌<◌, ◌≤◌, ◌++◌, All, List, Option, drop, length}
use Rattle.grain_code.specs.Span.{Span}
use Rattle.grain_rules.specs.declared.error.VerifyError.{VerifyError}
use Rattle.grain_flat.specs.Answers.{Accepts, Refuses, Visits, VisitsWithin, refusal_record}
use Rattle.grain_flat.specs.Asking.{RowPasses}
use Rattle.grain_flat.specs.Flat.{Pooled}
use Rattle.grain_flat.specs.Tightening.{Tightens}
use Rattle.grain_flat.specs.Work.{work_of}
use Rattle.grain_flat.specs.declared.records.CProgram.{CProgram}
use Rattle.grain_flat.specs.declared.records.CReport.{CReport}
use Rattle.grain_c.specs.declared.status.TheConstants.{ACCEPTED, REFUSED, SHORT, OUT_OF_MEMORY, NOT_FLAT, TOO_MUCH_WORK}

-- What a verification answers, beside what it writes for an accepted program: when which status, and what the report says.
-- The room is how many places the caller has for chunks or depths.
pub record IsAnswer (caps limit : ℕ) (program : CProgram) (room : ℕ) (old new : CReport) (status : ℕ) : Type 0 where
  -- the refusal is a flaw of all programs whose pools have this flat form
  pub refused : status ≡ REFUSED → (chunk : Option ℕ) × (e : VerifyError) × (new.refusal ≡ refusal_record chunk e) × Refuses caps program.code.now program.chunks.now program.pools chunk e
  -- how many places the chunks reach, each for itself; of a refused program no more than their starts
  pub visited : status ≡ ACCEPTED → Visits caps program.code.now program.chunks.now program.pools new.visited
  pub visited_within : status ≡ REFUSED → VisitsWithin program.code.now program.chunks.now new.visited
  pub bounded : (status ≡ ACCEPTED) ⊎ (status ≡ REFUSED) → new.visited ≤ limit
  -- when each other status is answered
  pub not_flat : (status ≡ NOT_FLAT) ↔ (Pooled program.pools → ⊥)
  pub short : (status ≡ SHORT) ↔ (Pooled program.pools × (room < length program.chunks.now))
  pub limited : (status ≡ TOO_MUCH_WORK) ↔ (Pooled program.pools × (length program.chunks.now ≤ room) × (limit < work_of program.code.now program.chunks.now))
  pub memory : status ≡ OUT_OF_MEMORY → All (RowPasses caps) program.pools.constants.now
  pub answers : status ≤ TOO_MUCH_WORK
  -- what stays as it was
  pub refusal_kept : status ≢ REFUSED → new.refusal ≡ old.refusal
  pub visited_kept : status ≢ ACCEPTED → status ≢ REFUSED → new.visited ≡ old.visited

-- What a verification writes in the room for depths: the headline, of all that has this flat form, or nothing.
pub record WritesDepths (caps : ℕ) (program : CProgram) (old new : List ℕ) (status : ℕ) : Type 0 where
  pub accepted : status ≡ ACCEPTED → (found : List ℕ) × (new ≡ found ++ drop (length found) old) × (length found ≡ length program.chunks.now) × Accepts caps program.code.now program.chunks.now program.pools found
  pub kept : status ≢ ACCEPTED → new ≡ old

-- What tightening writes in the room for chunks: those of an accepted program, each declaring its depth, or nothing.
pub record WritesTight (caps : ℕ) (program : CProgram) (old new : List Span) (status : ℕ) : Type 0 where
  pub accepted : status ≡ ACCEPTED → (tight : List Span) × (new ≡ tight ++ drop (length tight) old) × (length tight ≡ length program.chunks.now) × Tightens caps program.code.now program.chunks.now tight program.pools
  pub kept : status ≢ ACCEPTED → new ≡ old
