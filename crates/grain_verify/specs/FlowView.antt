-- The flow of operations, as the walk has it.
use Rattle.std.specs.Prelude.{◌≡◌, ⊤, ◌⊎◌, ℕ, ◌+◌, ◌-◌, ◌<◌, ◌≤◌, List, [], ◌∷◌, ◌++◌, Option, cond, length, map}
use Rattle.std.specs.List.{All}
use Rattle.grain_code.specs.Span.{Span}
use Rattle.grain_verify.specs.Arrivals.{IsAtOrdinal, RefusesSwitch, RefusesTargetOf, Sends, underway, view}
use Rattle.grain_rules.specs.Counts.{Counts}
use Rattle.grain_rules.specs.Flow as flows
use Rattle.grain_rules.specs.FlowFields.{bases_for, falls_for, handlers_for, iterators_for, targets_for}
use Rattle.grain_verify.specs.Lists.{list_of, list_count}
use Rattle.grain_rules.specs.declared.error.VerifyError.{VerifyError}
use Rattle.grain_rules.specs.declared.error.VerifyError.TheVariants as errors
use Rattle.grain_verify.specs.declared.lists.Lists.{Lists}
use Rattle.grain_verify.specs.declared.state.Arrival.{Arrival}
use Rattle.grain_verify.specs.declared.state.State.{State}

-- there are the iterators and handlers that it needs
pub record IsMetBy (f : flows.Flow) (c : Counts) : Type 0 where
  pub iterators : iterators_for f ≤ c.iterators
  pub handlers : handlers_for f ≤ length c.bases

-- how an instruction is refused that lacks an iterator or a handler
abbrev pub IsShort : flows.Flow → ℕ → Counts → VerifyError → Type 0
IsShort f at c (errors.IteratorUnderflow a) = (a ≡ at) × (c.iterators < iterators_for f)
IsShort f at c (errors.HandlerUnderflow a) = (a ≡ at) × (length c.bases < handlers_for f)
IsShort f at c e = ⊥

-- The state on the edges to the targets of such a flow, if this many operands are left and the handlers that are armed
-- then have this list.
abbrev pub jumped : flows.Flow → ℕ → ℕ → State → State
jumped flows.Falls left list s = record s { operands = left }
jumped flows.Ends left list s = record s { operands = left }
jumped (flows.Jumps target) left list s = record s { operands = left }
jumped (flows.Branches target) left list s = record s { operands = left }
jumped (flows.Switches w) left list s = record s { operands = left }
jumped flows.BeginsIterator left list s = record s { operands = left }
jumped (flows.AdvancesIterator exit) left list s = record s { iterators = s.iterators - 1 }
jumped flows.EndsIterator left list s = record s { operands = left }
jumped (flows.PushesHandler target) left list s = record s { list = list }
jumped flows.PopsHandler left list s = record s { operands = left }

-- the state on the edge to the next operation
abbrev pub fallen : flows.Flow → ℕ → ℕ → State → State
fallen flows.Falls left list s = record s { operands = left }
fallen flows.Ends left list s = record s { operands = left }
fallen (flows.Jumps target) left list s = record s { operands = left }
fallen (flows.Branches target) left list s = record s { operands = left }
fallen (flows.Switches w) left list s = record s { operands = left }
fallen flows.BeginsIterator left list s = record s { operands = left; iterators = s.iterators + 1 }
fallen (flows.AdvancesIterator exit) left list s = record s { operands = s.operands + 1 }
fallen flows.EndsIterator left list s = record s { iterators = s.iterators - 1 }
fallen (flows.PushesHandler target) left list s = record s { list = list }
fallen flows.PopsHandler left list s = record s { list = list }

-- the arrival at the next instruction, this many bytes on
abbrev pub next_to : Arrival → ℕ → State → Arrival
next_to here width s = record { at = here.at + width; ordinal = here.ordinal + 1; state = s }

-- what falls through, if it does
abbrev pub falls_to : flows.Flow → ℕ → ℕ → Arrival → ℕ → List Arrival
falls_to f left list here width = cond (falls_for f) (next_to here width (fallen f left list here.state) ∷ []) []

-- How an operation of such a flow and width is followed, if this many operands are left: the armed handlers have some
-- list then, its state is sent to its targets, and another falls through, if it does. All these are then on their way.
pub record IsFollowed (starts : List ℕ) (chunk : Span) (switches : List (List ℕ)) (f : flows.Flow) (left : ℕ) (here : Arrival) (width : ℕ) (old new : Lists)
    (sent new_sent : List (Option State)) (work on_way : List Arrival) : Type 0 where
  pub list : ℕ
  pub there : list ≤ list_count new
  pub bases : list_of new list ≡ bases_for f (view old here.state)
  pub pushed : List Arrival
  pub sends : Sends starts chunk switches f (jumped f left list here.state) sent new_sent (map underway work) (map underway pushed)
  pub at_ordinal : All (IsAtOrdinal starts chunk) work → All (IsAtOrdinal starts chunk) pushed
  pub all : on_way ≡ pushed ++ falls_to f left list here width

-- how a flow is refused: it lacks an iterator or a handler, or a target refuses it, or its switch does
abbrev pub RefusesFlow : List ℕ → Span → List (List ℕ) → ℕ → Counts → State → List (Option State) → flows.Flow → VerifyError → Type 0
RefusesFlow starts chunk switches at c after sent f e =
    IsShort f at c e
    ⊎ (IsMetBy f c
    × (RefusesTargetOf starts chunk at (targets_for switches f) e ⊎ RefusesSwitch switches f after sent e))
