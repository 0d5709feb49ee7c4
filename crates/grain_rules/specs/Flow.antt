-- How an operation is left, and what that does to iterators and armed handlers.
use Rattle.std.specs.Prelude.{ℕ, ◌+◌, ◌-◌, Bool, true, false, List, [], ◌∷◌, get_or}
use Rattle.grain_rules.specs.Counts.{Counts, armed, without_last}

pub data Flow : Type 0 where
  -- it falls through to the next operation
  Falls : Flow
  -- it ends the run
  Ends : Flow
  -- it jumps to the target
  Jumps : (target : ℕ) → Flow
  -- it jumps to the target or falls through
  Branches : (target : ℕ) → Flow
  -- it jumps to a target of the switch at this index
  Switches : (index : ℕ) → Flow
  -- it begins an iterator and falls through
  BeginsIterator : Flow
  -- it pushes the item that an iterator gives and falls through, or ends the iterator and jumps to the exit
  AdvancesIterator : (exit : ℕ) → Flow
  -- it ends an iterator and falls through
  EndsIterator : Flow
  -- it arms a handler, which catches at the target, and falls through
  PushesHandler : (target : ℕ) → Flow
  -- it disarms a handler and falls through
  PopsHandler : Flow

-- How many iterators there have to be, and how many armed handlers; where the operation may jump, a catch among them, and whether
-- an ordinary step goes there, as it never does to a catch; whether it may fall through; and the counts on the edges to its
-- targets and on that to the next operation, if this many operands are left.
pub record Leaving : Type 0 where
  pub iterators : ℕ
  pub handlers : ℕ
  pub targets : List ℕ
  pub jumps : Bool
  pub falls : Bool
  pub jump : ℕ → Counts → Counts
  pub fall : ℕ → Counts → Counts

abbrev pub with_operands : ℕ → Counts → Counts
with_operands left c = record c { operands = left }

abbrev pub without_iterator : ℕ → Counts → Counts
without_iterator left c = record c { iterators = c.iterators - 1 }

abbrev pub with_handler : ℕ → Counts → Counts
with_handler left c = record c { bases = armed c }

-- a row for each flow, with these targets of each switch
abbrev pub leaving : List (List ℕ) → Flow → Leaving
leaving switches Falls = record { iterators = 0; handlers = 0; targets = []; jumps = true; falls = true; jump = with_operands; fall = with_operands }
leaving switches Ends = record { iterators = 0; handlers = 0; targets = []; jumps = true; falls = false; jump = with_operands; fall = with_operands }
leaving switches (Jumps target) = record { iterators = 0; handlers = 0; targets = target ∷ []; jumps = true; falls = false; jump = with_operands; fall = with_operands }
leaving switches (Branches target) = record { iterators = 0; handlers = 0; targets = target ∷ []; jumps = true; falls = true; jump = with_operands; fall = with_operands }
leaving switches (Switches w) = record { iterators = 0; handlers = 0; targets = get_or switches w []; jumps = true; falls = false; jump = with_operands; fall = with_operands }
leaving switches BeginsIterator = record { iterators = 0; handlers = 0; targets = []; jumps = true; falls = true; jump = with_operands; fall = λ left c. record c { operands = left; iterators = c.iterators + 1 } }
leaving switches (AdvancesIterator exit) = record { iterators = 1; handlers = 0; targets = exit ∷ []; jumps = true; falls = true; jump = without_iterator; fall = λ left c. record c { operands = c.operands + 1 } }
leaving switches EndsIterator = record { iterators = 1; handlers = 0; targets = []; jumps = true; falls = true; jump = with_operands; fall = without_iterator }
leaving switches (PushesHandler target) = record { iterators = 0; handlers = 0; targets = target ∷ []; jumps = false; falls = true; jump = with_handler; fall = with_handler }
leaving switches PopsHandler = record { iterators = 0; handlers = 1; targets = []; jumps = true; falls = true; jump = with_operands; fall = λ left c. record c { bases = without_last c.bases } }
