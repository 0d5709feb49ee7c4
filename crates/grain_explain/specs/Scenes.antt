-- What the walk over a chunk has reached.
use Rattle.std.specs.Prelude.{◌≡◌, ◌⊎◌, ◌↔◌, ⊤, ℕ, zero, suc, ◌+◌, ◌-◌, ◌<◌, ◌≤◌, ◌^◌, List, ◌++◌, Option, None, Some, MatchOption, get_or, length}
use Rattle.std.specs.List.{All, Contains, count_by}
use Rattle.std.specs.Option.{is_some}
use Rattle.grain_base.specs.declared.caps.Caps.{Caps}
use Rattle.grain_code.specs.InstructionTable.{width_of}
use Rattle.grain_code.specs.Span.{Span}
use Rattle.grain_code.specs.Split.{Split}
use Rattle.grain_code.specs.declared.op.Op.{Op}
use Rattle.grain_rules.specs.Accepted.{IsFramed}
use Rattle.grain_rules.specs.Code.{Bytecode, bytecode_beside, coded}
use Rattle.grain_rules.specs.Facts.{Facts}
use Rattle.grain_rules.specs.Layout.{IsStart}
use Rattle.grain_rules.specs.Typing.{IsInChunk, Passes, Reached}
use Rattle.grain_rules.specs.declared.error.VerifyError.{VerifyError}
use Rattle.grain_rules.specs.declared.error.VerifyError.TheVariants as flaws
use Rattle.grain_explain.specs.Lacking.{DoesTo}
use Rattle.grain_rules.specs.Counts.{Counts}
use Rattle.grain_rules.specs.declared.effect.Effect.{Effect}
use Rattle.grain_explain.specs.Claimed.{falling_on, jumping}
use Rattle.grain_explain.specs.RowView.{AreLinked, counts_of, list_in}
use Rattle.grain_explain.specs.Ways.{Follows, IsShownRefusal, arrival_stop, first_stop}
use Rattle.grain_explain.specs.declared.arrival.Arrival.{Arrival}
use Rattle.grain_explain.specs.declared.needs.Lack.{Lack}
use Rattle.grain_explain.specs.declared.needs.Lack.TheVariants as lacks
use Rattle.grain_explain.specs.declared.refusal.Refusal.{Refusal}
use Rattle.grain_explain.specs.declared.row.LinkedBase.{LinkedBase}
use Rattle.grain_explain.specs.declared.row.Row.{Row}
use Rattle.grain_explain.specs.declared.scene.Scene.{Scene}
use Rattle.grain_explain.specs.declared.stacks.Leaving.{Leaving}
use Rattle.grain_explain.specs.declared.stacks.Stacks.{Stacks}
use Rattle.grain_explain.specs.declared.walk.Departure.{Departure}
use Rattle.grain_explain.specs.declared.walk.Search.{Search}
use Rattle.grain_explain.specs.declared.walk.Visited.{Visited}

-- what a walk reads: code in its setting, where its instructions begin, and a chunk of it
pub record Seen : Type 0 where
  pub code : Bytecode
  pub starts : List ℕ
  pub chunk : Span

-- of a scene whose pools say this of themselves
abbrev pub seen : {P Leads : Type 0} → (P → Facts) → (P → List (List ℕ)) → Scene P Leads → Seen
seen facts leads s = record {
  code = bytecode_beside s.caps.0 (facts s.pools.now) (leads s.pools.now) s.code.now;
  starts = s.starts.now.starts;
  chunk = s.chunk.now;
}

-- the starts are those of the code, which is whole instructions
abbrev pub IsStarted : Seen → Type 0
IsStarted s = Split s.code.bytes s.starts

-- the chunk is framed and holds something besides
pub record IsReadyScene (s : Seen) : Type 0 where
  pub started : IsStarted s
  pub framed : IsFramed s.code s.chunk
  pub holds : s.chunk.entry < s.chunk.end

-- the target that an instruction names is no start of the chunk
abbrev pub MissesTarget : Seen → ℕ → ℕ → VerifyError → Type 0
MissesTarget s at target e =
    ((e ≡ flaws.JumpOutOfRange at target) × ((target < s.chunk.entry) ⊎ (s.chunk.end ≤ target)))
    ⊎ ((e ≡ flaws.JumpIntoAnInstruction at target) × (s.chunk.entry ≤ target) × (target < s.chunk.end) × (IsStart s.code.bytes target → ⊥))

-- that of one of these
abbrev pub MissesTargetOf : Seen → ℕ → List ℕ → VerifyError → Type 0
MissesTargetOf s at ts e = (t : ℕ) × Contains ts t × MissesTarget s at t e

-- what a walk begins with
abbrev pub first_arrival : Span → Arrival
first_arrival chunk = record { row = record { at = chunk.entry; operands = 0; iterators = 0; bases = 0 }; from = None }

-- how many places were visited
abbrev pub visit_count : List (Option Arrival) → ℕ
visit_count slots = count_by is_some slots

-- fewer than this many steps lead from an arrival back to the entry, from place to place
abbrev pub LeadsBack : List (Option Arrival) → ℕ → Arrival → Type 0
LeadsBack slots zero a = ⊥
LeadsBack slots (suc n) a = MatchOption a.from ⊤ (λ k. (y : Arrival) × (get_or slots k None ≡ Some y) × LeadsBack slots n y)

-- this many steps lead back at most, and no more operands or iterators are there
pub record IsWithinSteps (slots : List (Option Arrival)) (n : ℕ) (a : Arrival) : Type 0 where
  pub back : LeadsBack slots (suc n) a
  pub operands : a.row.operands ≤ n
  pub iterators : a.row.iterators ≤ n

-- An arrival names a list that is there; it is at an instruction of the chunk; it is reached, and is what the chunk begins with,
-- or comes along an edge of what is in its place.
pub record IsCome (s : Seen) (bases : List LinkedBase) (slots : List (Option Arrival)) (a : Arrival) : Type 0 where
  pub listed : a.row.bases ≤ length bases
  pub inside : IsInChunk (coded s.code) s.chunk a.row.at
  pub reached : Reached (coded s.code) s.chunk a.row.at (counts_of bases a.row)
  pub origin : MatchOption a.from (arrival_stop bases a ≡ first_stop s.chunk)
      (λ k. (y : Arrival) × (get_or slots k None ≡ Some y) × Follows s.code s.chunk (arrival_stop bases y) (arrival_stop bases a))
  pub bounded : IsWithinSteps slots (visit_count slots) a

-- an arrival that was visited is in the place of its address, has come from another unless that is the entry, and others were
-- visited before it
pub record IsHeld (s : Seen) (bases : List LinkedBase) (slots : List (Option Arrival)) (k : ℕ) (a : Arrival) : Type 0 where
  pub come : IsCome s bases slots a
  pub placed : a.row.at ≡ s.chunk.entry + k
  pub first : (a.from ≡ None) ↔ (k ≡ 0)
  pub earlier : ℕ
  pub fewer : earlier < visit_count slots
  pub bounded : IsWithinSteps slots earlier a

abbrev pub AreCome : Seen → List LinkedBase → List (Option Arrival) → Type 0
AreCome s bases slots = (k : ℕ) (a : Arrival) → get_or slots k None ≡ Some a → IsHeld s bases slots k a

-- the same of what a walk has visited
abbrev pub ArrivesInWalk : Seen → Visited → Arrival → Type 0
ArrivesInWalk s v a = IsCome s v.bases.now v.slots.now a

abbrev pub AreHeld : Seen → Visited → Type 0
AreHeld s v = AreCome s v.bases.now v.slots.now

-- there is a place for each address of the chunk, and no more bases than visits; all that was visited has come, and all that waits
pub record IsSearching (s : Seen) (x : Search) : Type 0 where
  pub linked : AreLinked x.arming.bases.items
  pub sized : length x.slots.items ≡ s.chunk.end - s.chunk.entry
  pub short : length x.slots.items < 2 ^ 32
  pub few : length x.arming.bases.items ≤ visit_count x.slots.items
  pub held : AreCome s x.arming.bases.items x.slots.items
  pub waits : All (IsCome s x.arming.bases.items x.slots.items) x.work.items

abbrev pub IsRefusalAt : Seen → List LinkedBase → Refusal → Type 0
IsRefusalAt s bases r = IsShownRefusal s.code s.chunk bases r

-- the counts that stacks are
abbrev pub stacks_in : List LinkedBase → Stacks → Counts
stacks_in bases s = record { operands = s.operands; iterators = s.iterators; bases = list_in bases s.bases }

-- bases are added to others
pub record Extends (old new : List LinkedBase) : Type 0 where
  pub more : List LinkedBase
  pub is : new ≡ old ++ more
  pub linked : AreLinked new

-- what is on an edge, and names a list that is there
pub record StandsOnEdge (bases : List LinkedBase) (s : Stacks) (c : Counts) : Type 0 where
  pub listed : s.bases ≤ length bases
  pub is : stacks_in bases s ≡ c

-- what is on the edges to the targets of an operation that finds a row, and on that to the next
pub record Leaves (bases : List LinkedBase) (row : Row) (e : Effect) (l : Leaving) : Type 0 where
  pub jump : StandsOnEdge bases l.jump (jumping bases row e)
  pub fall : StandsOnEdge bases l.fall (falling_on bases row e)

-- an instruction that passes is left: this is what it does, what is on its edges, and where the next one is
pub record IsLeft (s : Seen) (d : Departure) : Type 0 where
  pub op : Op
  pub does : DoesTo s.code.setting op d.effect.now
  pub passes : Passes (coded s.code) s.chunk d.here.now.row.at (counts_of d.visited.bases.now d.here.now.row) op
  pub next : d.next ≡ d.here.now.row.at + width_of op
  pub come : AreHeld s d.visited
  pub held : get_or d.visited.slots.now d.place None ≡ Some d.here.now
  pub leaves : Leaves d.visited.bases.now d.here.now.row d.effect.now d.leaving

-- the refusal of an instruction that finds a row and lacks this
abbrev pub error_lacking : Caps → Row → Lack → VerifyError
error_lacking caps row (lacks.Capabilities absent) = flaws.MissingCaps caps absent row.at
error_lacking caps row (lacks.Operands need) = flaws.Underflow row.at need row.operands
error_lacking caps row lacks.Iterators = flaws.IteratorUnderflow row.at
error_lacking caps row lacks.Handlers = flaws.HandlerUnderflow row.at
error_lacking caps row (lacks.Reserve need have) = flaws.SinksBelowHandler row.at need have
