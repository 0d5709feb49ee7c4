-- What visiting an instruction finds and leaves.
use Rattle.std.specs.Prelude.{◌≡◌, ◌⊎◌, ℕ, ◌+◌, ◌≤◌, List, ◌++◌, length}
use Rattle.grain_code.specs.Span.{Span}
use Rattle.grain_rules.specs.Accepted.{IsFramed}
use Rattle.grain_rules.specs.Code.{Bytecode}
use Rattle.grain_rules.specs.Flaw.{ChunkFlaw}
use Rattle.grain_verify.specs.Plain.{IsFloor, LeavesFloor}
use Rattle.grain_verify.specs.Progress.{HaltsAt, IsWalking, all_targets}
use Rattle.grain_verify.specs.Walk.{IsReady, Walked}
use Rattle.grain_rules.specs.declared.error.VerifyError.{VerifyError}
use Rattle.grain_rules.specs.declared.error.VerifyError.TheVariants.{OutOfMemory}
use Rattle.grain_code.specs.declared.flow.Flow.{Flow}
use Rattle.grain_verify.specs.declared.lists.Lists.{Lists}
use Rattle.grain_verify.specs.declared.state.Arrival.{Arrival}
use Rattle.grain_verify.specs.declared.state.State.{State}
use Rattle.grain_verify.specs.declared.walk.Traversal.{Traversal}

-- how a walk ends that doesn't reach its end: memory was refused, or the chunk has this flaw
abbrev pub RefusesChunk : Bytecode → Span → VerifyError → Type 0
RefusesChunk code chunk e = (e ≡ OutOfMemory) ⊎ ChunkFlaw code chunk e

-- the instruction here is marked as visited, in a chunk whose frame has passed, and its edges are still to be followed
pub record IsMarked (p : Walked) (chunk : Span) (lists : Lists) (t : Traversal) (here : Arrival) : Type 0 where
  pub ready : IsReady p
  pub framed : IsFramed p.code chunk
  pub halts : (deepest : ℕ) × HaltsAt p chunk lists t here deepest

-- Its edges were followed. These arrivals come next, and others went on the worklist: no more than a switch has targets and
-- two.
pub record IsVisited (p : Walked) (chunk : Span) (old new : Lists) (before after : Traversal) (here : Arrival) (next : List Arrival) : Type 0 where
  pub walking : (deepest : ℕ) → HaltsAt p chunk old before here deepest → IsWalking p chunk new after (after.work.items ++ next) deepest
  pub states : after.states ≡ before.states
  pub few : length (after.work.items ++ next) ≤ length before.work.items + (all_targets p.code.switches + 2)

-- what was a floor before a flow tells that after it
abbrev pub CarriesFloor : Flow → Lists → Lists → State → State → Type 0
CarriesFloor way old new before after = (floor : ℕ) → IsFloor old before floor → LeavesFloor way floor new after
