-- What the walk expects: counts on their way to an address, and how those are refused that cannot arrive.
use Rattle.std.specs.Prelude.{◌≡◌, ◌≢◌, ℕ, ◌+◌, ◌<◌, ◌≤◌, ◌⊎◌, cond, List, [], ◌∷◌, ◌++◌, get_or, length, map, Option, None, Some, option_map, slice_get, slice_set}
use Rattle.std.specs.List.{All, Contains}
use Rattle.grain_base.specs.CapBits.{missing}
use Rattle.grain_code.specs.Span.{Span}
use Rattle.grain_code.specs.InstructionTable.{width_of}
use Rattle.grain_code.specs.declared.op.Op.{Op}
use Rattle.grain_rules.specs.Capabilities.{Allows}
use Rattle.grain_rules.specs.Code.{Bytecode}
use Rattle.grain_rules.specs.Counts.{Counts}
use Rattle.grain_rules.specs.Effects.{Meets, iterators_needed, handlers_needed, falls_through, after_fall}
use Rattle.grain_rules.specs.Flow.{Flow, Switches}
use Rattle.grain_rules.specs.Rows.{caps_of, needs}
use Rattle.grain_rules.specs.FlowFields.{targets_for}
use Rattle.grain_verify.specs.Lists.{list_of}
use Rattle.grain_rules.specs.Sinking.{Sinks}
use Rattle.grain_rules.specs.declared.error.VerifyError.{VerifyError}
use Rattle.grain_rules.specs.declared.error.VerifyError.TheVariants as errors
use Rattle.grain_verify.specs.declared.lists.Lists.{Lists}
use Rattle.grain_verify.specs.declared.state.Arrival.{Arrival}
use Rattle.grain_verify.specs.declared.state.State.{State}

-- what a state of the walk stands for, if these are the lists of bases
abbrev pub view : Lists → State → Counts
view lists s = record { operands = s.operands; iterators = s.iterators; bases = list_of lists s.list }

-- an address, and counts on their way to it
abbrev pub Coming : Type 0
Coming = ℕ × Counts

abbrev pub coming : Lists → Arrival → Coming
coming lists a = (a.at, view lists a.state)

-- counts on their way to each of these addresses
abbrev pub all_to : Counts → List ℕ → List Coming
all_to c ts = map (λ (t : ℕ). (t, c)) ts

-- a state on its way to an address
pub record Underway : Type 0 where
  pub at : ℕ
  pub state : State

abbrev pub underway : Arrival → Underway
underway a = record { at = a.at; state = a.state }

-- a state on its way to each of these addresses
abbrev pub all_underway : State → List ℕ → List Underway
all_underway s ts = map (λ (t : ℕ). record { at = t; state = s }) ts

-- one of the starts, in the chunk
pub record IsStartIn (starts : List ℕ) (chunk : Span) (at : ℕ) : Type 0 where
  pub entry : chunk.entry ≤ at
  pub end : at < chunk.end
  pub start : Contains starts at

-- an arrival in the chunk is at the start of its ordinal
abbrev pub IsAtOrdinal : List ℕ → Span → Arrival → Type 0
IsAtOrdinal starts chunk a = a.at < chunk.end → slice_get starts a.ordinal ≡ Some a.at

-- how a target is refused that is none
abbrev pub RefusesTarget : List ℕ → Span → ℕ → ℕ → VerifyError → Type 0
RefusesTarget starts chunk at target (errors.JumpOutOfRange a t) = (a ≡ at) × (t ≡ target) × ((t < chunk.entry) ⊎ (chunk.end ≤ t))
RefusesTarget starts chunk at target (errors.JumpIntoAnInstruction a t) = (a ≡ at) × (t ≡ target) × (chunk.entry ≤ t) × (t < chunk.end) × (Contains starts t → ⊥)
RefusesTarget starts chunk at target e = ⊥

-- the refusal is a lack of memory, or that of one of these targets
abbrev pub RefusesTargetOf : List ℕ → Span → ℕ → List ℕ → VerifyError → Type 0
RefusesTargetOf starts chunk at ts e = (e ≡ errors.OutOfMemory) ⊎ ((t : ℕ) × Contains ts t × RefusesTarget starts chunk at t e)

-- a state is pushed to each of these targets, all of them starts of the chunk
pub record Pushes (starts : List ℕ) (chunk : Span) (after : State) (ts : List ℕ) (old new : List Arrival) : Type 0 where
  pub starts_in : All (IsStartIn starts chunk) ts
  pub added : map underway new ≡ map underway old ++ all_underway after ts
  pub at_ordinal : All (IsAtOrdinal starts chunk) old → All (IsAtOrdinal starts chunk) new

-- the states that were sent to the targets of switches, as counts
abbrev pub sent_by : Lists → List (Option State) → List (Option Counts)
sent_by lists states = map (option_map (view lists)) states

-- a state is sent to each target, all of them starts of the chunk, and where it is those of a switch that is noted
pub record SendsAll (starts : List ℕ) (chunk : Span) (switches : List (List ℕ)) (f : Flow) (after : State) (sent new_sent : List (Option State)) (old new : List Underway) : Type 0 where
  pub starts_in : All (IsStartIn starts chunk) (targets_for switches f)
  pub added : new ≡ old ++ all_underway after (targets_for switches f)
  pub noted : (new_sent ≡ sent) ⊎ ((w : ℕ) × (f ≡ Switches w) × (new_sent ≡ slice_set sent w (Some after)))

-- the state was sent to the targets of this switch before
pub record SendsNone (f : Flow) (after : State) (sent new_sent : List (Option State)) (old new : List Underway) : Type 0 where
  pub added : new ≡ old
  pub kept : new_sent ≡ sent
  pub switch : ℕ
  pub is : f ≡ Switches switch
  pub before : get_or sent switch None ≡ Some after

-- how a state is sent to the targets of a flow
abbrev pub Sends : List ℕ → Span → List (List ℕ) → Flow → State → List (Option State) → List (Option State) → List Underway → List Underway → Type 0
Sends starts chunk switches f after sent new_sent old new = SendsAll starts chunk switches f after sent new_sent old new ⊎ SendsNone f after sent new_sent old new

-- another state was sent to the targets of its switch before
abbrev pub RefusesSwitch : List (List ℕ) → Flow → State → List (Option State) → VerifyError → Type 0
RefusesSwitch switches f after sent (errors.DepthConflict a expected found) =
    (w : ℕ) × (before : State) × (f ≡ Switches w) × (get_or sent w None ≡ Some before) × (before ≢ after) × Contains (get_or switches w []) a × (expected ≡ before.operands) × (found ≡ after.operands)
RefusesSwitch switches f after sent e = ⊥

-- how an instruction is refused that lacks something with these counts, or sinks below the base of the last handler
abbrev pub RefusesState : Bytecode → Op → ℕ → Counts → VerifyError → Type 0
RefusesState code op at c (errors.MissingCaps artifact absent a) =
    (a ≡ at) × (artifact.0 ≡ code.setting.caps) × (absent.0 ≡ missing code.setting.caps (caps_of code.setting op)) × (absent.0 ≢ 0)
RefusesState code op at c (errors.Underflow a need have) =
    (a ≡ at) × Allows code.setting.caps (caps_of code.setting op) × (need ≡ needs code.setting op) × (have ≡ c.operands) × (have < need)
RefusesState code op at c (errors.IteratorUnderflow a) =
    (a ≡ at) × Allows code.setting.caps (caps_of code.setting op) × (c.iterators < iterators_needed op)
RefusesState code op at c (errors.HandlerUnderflow a) =
    (a ≡ at) × Allows code.setting.caps (caps_of code.setting op) × (length c.bases < handlers_needed op)
RefusesState code op at c (errors.SinksBelowHandler a need have) =
    (a ≡ at) × Allows code.setting.caps (caps_of code.setting op) × Meets code.setting op c × Sinks code.setting op c need have
RefusesState code op at c e = ⊥

-- what falls through to the next instruction, if it does
abbrev pub falling : Bytecode → Op → ℕ → Counts → List Coming
falling code op at c = cond (falls_through op) ((at + width_of op, after_fall code.setting op c) ∷ []) []
