-- The machine with the operands and iterators that it holds.
use Rattle.std.specs.Prelude.{◌≡◌, ℕ, ◌+◌, ◌-◌, List, ◌∷◌, ◌++◌, Option, Some, drop, length, slice_get, take, true}
use Rattle.grain_code.specs.declared.op.Op.{Op}
use Rattle.grain_code.specs.declared.op.Op.TheVariants as ops
use Rattle.grain_rules.specs.Effects.{iterators_needed}
use Rattle.grain_rules.specs.Flow as flows
use Rattle.grain_rules.specs.Flow.{Flow}
use Rattle.grain_rules.specs.Layout.{Reads}
use Rattle.grain_rules.specs.Machine.{Handler, Machine, innermost}
use Rattle.grain_rules.specs.Rows.{flow_of, needs, takes}
use Rattle.grain_rules.specs.Setting.{Setting}
use Rattle.grain.specs.Program.{Program, setting_of}
use Rattle.grain_machine.specs.Asked.{program_code}

-- A state of the machine: the operands, of which the last is the top, the iterators, of which the last is the innermost, and
-- the handlers, of which the first is the innermost.
pub record ValueMachine (V I : Type 0) : Type 0 where
  pub address : ℕ
  pub operands : List V
  pub iterators : List I
  pub handlers : List Handler

-- the same state as the machine is defined, which counts operands and iterators
abbrev pub counted : {V I : Type 0} → ValueMachine V I → Machine
counted m = record { address = m.address; operands = length m.operands; iterators = length m.iterators; handlers = m.handlers }

-- the top of a stack, if there is one
abbrev pub top : {X : Type 0} → List X → Option X
top xs = slice_get xs (length xs - 1)

-- all but the topmost n, and these
abbrev pub below : {X : Type 0} → ℕ → List X → List X
below n xs = take (length xs - n) xs

abbrev pub topmost : {X : Type 0} → ℕ → List X → List X
topmost n xs = drop (length xs - n) xs

-- the top is moved below the next ones, as many as the depth says
abbrev pub rotated : {X : Type 0} → ℕ → List X → List X
rotated depth xs = below (depth + 1) xs ++ (drop depth (topmost (depth + 1) xs) ++ take depth (topmost (depth + 1) xs))

-- the first n of a stack are what they were, or as many of them as it still has
abbrev pub KeepsFirst : {X : Type 0} → ℕ → List X → List X → Type 0
KeepsFirst n xs ys = take n ys ≡ take (length ys) (take n xs)

-- How many of the topmost operands an operation may change. One that falls through may change what it needs; any other only
-- what it takes, so that a switch and a test for unit only look at the top.
abbrev pub touched_by : Flow → ℕ → ℕ → ℕ
touched_by flows.Falls needed taken = needed
touched_by flows.Ends needed taken = taken
touched_by (flows.Jumps target) needed taken = taken
touched_by (flows.Branches target) needed taken = taken
touched_by (flows.Switches w) needed taken = taken
touched_by flows.BeginsIterator needed taken = taken
touched_by (flows.AdvancesIterator exit) needed taken = taken
touched_by flows.EndsIterator needed taken = taken
touched_by (flows.PushesHandler target) needed taken = taken
touched_by flows.PopsHandler needed taken = taken

abbrev pub touched : Setting → Op → ℕ
touched s op = touched_by (flow_of op) (needs s op) (takes s op)

-- What a move does to the operands and iterators: below those that the operation at the first state may change, all are what
-- and where they were; and `Rotate` rotates.
pub record PassesOn {V I : Type 0} (p : Program) (m n : ValueMachine V I) : Type 0 where
  pub op : Op
  pub stands : Reads (program_code p).layout m.address op
  pub operands : KeepsFirst (length m.operands - touched (setting_of p) op) m.operands n.operands
  pub iterators : KeepsFirst (length m.iterators - iterators_needed op) m.iterators n.iterators
  pub rotates : (depth : ℕ) → op ≡ ops.Rotate depth → n.operands ≡ rotated depth m.operands

-- A fault at this state lands there: the innermost handler that isn't spent catches it, and the stacks are cut to what
-- stood when that handler was armed.
pub record Lands {V I : Type 0} (m n : ValueMachine V I) : Type 0 where
  pub handler : Handler
  pub outer : List Handler
  pub caught : innermost m.handlers ≡ Some (handler, outer)
  pub lands : n ≡ record {
    address = handler.target;
    operands = take handler.operands m.operands;
    iterators = take handler.iterators m.iterators;
    handlers = record handler { spent = true } ∷ outer;
  }
