-- What a walk has still to visit: each edge of what it has visited leads to what it has visited, or to what waits.
use Rattle.std.specs.Prelude.{◌≡◌, ◌⊎◌, ◌↔◌, ℕ, ◌+◌, ◌<◌, List, [], ◌∷◌, ◌++◌, Option, None, Some, get_or, length}
use Rattle.std.specs.List.{All, Contains}
use Rattle.grain_code.specs.declared.op.Op.{Op}
use Rattle.grain_rules.specs.Code.{coded}
use Rattle.grain_rules.specs.Counts.{Counts}
use Rattle.grain_rules.specs.Effects.{Edge}
use Rattle.grain_rules.specs.Typing.{Passes}
use Rattle.grain_explain.specs.RowView.{counts_of}
use Rattle.grain_explain.specs.Scenes.{IsCome, IsRefusalAt, Seen}
use Rattle.grain_explain.specs.Ways.{Stop, arrival_stop, first_stop}
use Rattle.grain_explain.specs.declared.arrival.Arrival.{Arrival}
use Rattle.grain_explain.specs.declared.refusal.Refusal.{Refusal}
use Rattle.grain_explain.specs.declared.row.LinkedBase.{LinkedBase}
use Rattle.grain_explain.specs.declared.row.Row.{Row}
use Rattle.grain_explain.specs.declared.walk.Departure.{Departure}
use Rattle.grain_explain.specs.declared.walk.Search.{Search}
use Rattle.grain_explain.specs.declared.walk.Turn.{Turn}
use Rattle.grain_explain.specs.declared.walk.Turn.TheVariants as turns

-- an arrival that was visited
abbrev pub WasVisited : List (Option Arrival) → Arrival → Type 0
WasVisited slots a = (k : ℕ) × (get_or slots k None ≡ Some a)

-- the row of an arrival that was visited
abbrev pub IsRowIn : List (Option Arrival) → Row → Type 0
IsRowIn slots r = (a : Arrival) × WasVisited slots a × (a.row ≡ r)

-- all that was visited has its row
abbrev pub HasRows : List Row → List (Option Arrival) → Type 0
HasRows rows slots = (a : Arrival) → WasVisited slots a → Contains rows a.row

-- a state that was visited, or that waits
abbrev pub IsAhead : List LinkedBase → List (Option Arrival) → List Arrival → Stop → Type 0
IsAhead bases slots work x = (a : Arrival) × (WasVisited slots a ⊎ Contains work a) × (arrival_stop bases a ≡ x)

-- an arrival passes, and each of its edges leads to such a state
pub record IsPursued (s : Seen) (bases : List LinkedBase) (slots : List (Option Arrival)) (work : List Arrival) (a : Arrival) : Type 0 where
  pub op : Op
  pub passes : Passes (coded s.code) s.chunk a.row.at (counts_of bases a.row) op
  pub onward : (b : ℕ) (d : Counts) → Edge (coded s.code) op a.row.at (counts_of bases a.row) b d → IsAhead bases slots work (b, d)

-- what the chunk begins with is such a state, and all that was visited is pursued
pub record ArePursued (s : Seen) (bases : List LinkedBase) (slots : List (Option Arrival)) (work : List Arrival) : Type 0 where
  pub entry : IsAhead bases slots work (first_stop s.chunk)
  pub each : (k : ℕ) (a : Arrival) → get_or slots k None ≡ Some a → IsPursued s bases slots work a

-- the entry was visited
abbrev pub IsBegun : List (Option Arrival) → Type 0
IsBegun slots = (a : Arrival) × (get_or slots 0 None ≡ Some a)

-- the refusal is right, and each state of its path was visited
pub record IsRefusalShown (s : Seen) (bases : List LinkedBase) (slots : List (Option Arrival)) (r : Refusal) : Type 0 where
  pub shown : IsRefusalAt s bases r
  pub visited : All (IsRowIn slots) r.way.items

-- An arrival that is next, whose place is free: the entry, if nothing was visited, or what was taken from the worklist.
pub record IsNextArrival (s : Seen) (x : Search) (place : ℕ) (a : Arrival) : Type 0 where
  pub come : IsCome s x.arming.bases.items x.slots.items a
  pub placed : a.row.at ≡ s.chunk.entry + place
  pub first : (a.from ≡ None) ↔ (place ≡ 0)
  pub begun : (place ≡ 0) ⊎ IsBegun x.slots.items
  pub inside : place < length x.slots.items
  pub free : get_or x.slots.items place None ≡ None
  pub pursued : ArePursued s x.arming.bases.items x.slots.items (x.work.items ++ a ∷ [])

-- nothing waits, or this arrival is next, or this is the refusal
abbrev pub IsTurn : Seen → Search → Turn → Type 0
IsTurn s x turns.Finished = ArePursued s x.arming.bases.items x.slots.items []
IsTurn s x (turns.Visit place a) = IsNextArrival s x place a
IsTurn s x (turns.Refused r) = IsRefusalShown s x.arming.bases.items x.slots.items r

-- no arrival is lost
abbrev pub Keeps : List Arrival → List Arrival → Type 0
Keeps old new = (a : Arrival) → Contains old a → Contains new a

-- what is sent to a target, and to the next instruction
abbrev pub sent_to : Departure → ℕ → Arrival
sent_to d target = record {
  row = record { at = target; operands = d.leaving.jump.operands; iterators = d.leaving.jump.iterators; bases = d.leaving.jump.bases };
  from = Some d.place;
}

abbrev pub sent_to_next : Departure → Arrival
sent_to_next d = record {
  row = record { at = d.next; operands = d.leaving.fall.operands; iterators = d.leaving.fall.iterators; bases = d.leaving.fall.bases };
  from = Some d.place;
}
