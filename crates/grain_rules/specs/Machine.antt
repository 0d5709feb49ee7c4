-- The machine that runs a chunk, with faults and handlers.
use Rattle.std.specs.Prelude.{◌≡◌, ℕ, ◌-◌, ◌≤◌, ◌⊎◌, min, Bool, true, false, cond, List, [], ◌∷◌, map, Option, Some, None}
use Rattle.grain_code.specs.Span.{Span}
use Rattle.grain_code.specs.declared.op.Op.{Op}
use Rattle.grain_rules.specs.Code.{Code}
use Rattle.grain_rules.specs.Counts.{Base, Counts, without_last}
use Rattle.grain_rules.specs.Effects.{Jumps, FallsThrough, Meets, iterators_needed}
use Rattle.grain_rules.specs.Flow as flows
use Rattle.grain_rules.specs.Flow.{Flow, leaving}
use Rattle.grain_rules.specs.Rows.{flow_of, is_quiet, takes}
use Rattle.grain_rules.specs.Typing.{StandsIn}

-- an armed handler: where it catches, the stacks that stood when it was armed, and whether it has caught
pub record Handler : Type 0 where
  pub target : ℕ
  pub operands : ℕ
  pub iterators : ℕ
  pub spent : Bool

-- a state of the machine; the innermost handler comes first
pub record Machine : Type 0 where
  pub address : ℕ
  pub operands : ℕ
  pub iterators : ℕ
  pub handlers : List Handler

abbrev pub first : Span → Machine
first chunk = record { address = chunk.entry; operands = 0; iterators = 0; handlers = [] }

-- what was on the stacks when a handler was armed
abbrev pub base_of : Handler → Base
base_of h = record { operands = h.operands; iterators = h.iterators }

-- the counts, with the bases of the handlers
abbrev pub counts : Machine → Counts
counts m = record { operands = m.operands; iterators = m.iterators; bases = map base_of m.handlers }

-- the state doesn't lack: it is at a place of the chunk, with what its operation needs of the stacks
pub record Finds (code : Code) (chunk : Span) (m : Machine) (op : Op) : Type 0 where
  pub stands : StandsIn code chunk m.address op
  pub meets : Meets code.setting op (counts m)

-- the handlers that are armed after an operation of such a flow
abbrev pub handlers_behind : Flow → Machine → List Handler
handlers_behind flows.Falls m = m.handlers
handlers_behind flows.Ends m = m.handlers
handlers_behind (flows.Jumps target) m = m.handlers
handlers_behind (flows.Branches target) m = m.handlers
handlers_behind (flows.Switches w) m = m.handlers
handlers_behind flows.BeginsIterator m = m.handlers
handlers_behind (flows.AdvancesIterator exit) m = m.handlers
handlers_behind flows.EndsIterator m = m.handlers
handlers_behind (flows.PushesHandler target) m = record { target = target; operands = m.operands; iterators = m.iterators; spent = false } ∷ m.handlers
handlers_behind flows.PopsHandler m = without_last m.handlers

abbrev pub handlers_after : Op → Machine → List Handler
handlers_after op m = handlers_behind (flow_of op) m

-- the edges that an ordinary step follows: all but the catch edge
abbrev pub Flows : Code → Op → ℕ → Counts → ℕ → Counts → Type 0
Flows code op at c b d = (((leaving [] (flow_of op)).jumps ≡ true) × Jumps code op c b d) ⊎ FallsThrough code op at c b d

-- an ordinary step
pub record Steps (code : Code) (chunk : Span) (m n : Machine) : Type 0 where
  pub op : Op
  pub counted : Counts
  pub finds : Finds code chunk m op
  pub edge : Flows code op m.address (counts m) n.address counted
  pub operands : n.operands ≡ counted.operands
  pub iterators : n.iterators ≡ counted.iterators
  pub handlers : n.handlers ≡ handlers_behind (flow_of op) m

-- the innermost handler that isn't spent, and those outside it
abbrev pub innermost : List Handler → Option (Handler × List Handler)
innermost [] = None
innermost (h ∷ hs) = cond h.spent (innermost hs) (Some (h, hs))

-- A fault that a handler catches. It finds the operation's operands and iterators there, taken or in part; the stacks are
-- cut to what they held when the handler was armed, and the handler is spent.
pub record Catches (code : Code) (chunk : Span) (m n : Machine) : Type 0 where
  pub op : Op
  pub operands_found : ℕ
  pub iterators_found : ℕ
  pub handler : Handler
  pub outer : List Handler
  pub finds : Finds code chunk m op
  pub operands_low : m.operands - takes code.setting op ≤ operands_found
  pub operands_high : operands_found ≤ m.operands
  pub iterators_low : m.iterators - iterators_needed op ≤ iterators_found
  pub iterators_high : iterators_found ≤ m.iterators
  pub caught : innermost m.handlers ≡ Some (handler, outer)
  pub lands : n ≡ record { address = handler.target; operands = min operands_found handler.operands; iterators = min iterators_found handler.iterators; handlers = record handler { spent = true } ∷ outer }

-- it finds at least the stacks that stood when the handler was armed
pub record IsKept {code : Code} {chunk : Span} {m n : Machine} (fault : Catches code chunk m n) : Type 0 where
  pub operands : fault.handler.operands ≤ fault.operands_found
  pub iterators : fault.handler.iterators ≤ fault.iterators_found

-- A move of a kept run. A fault that no handler catches ends the run, as Return does.
abbrev pub Moves : Code → Span → Machine → Machine → Type 0
Moves code chunk m n = Steps code chunk m n ⊎ ((fault : Catches code chunk m n) × IsKept fault)

-- The same, if a fault has to be kept at quiet operations alone.
abbrev pub MovesKeptAtQuiet : Code → Span → Machine → Machine → Type 0
MovesKeptAtQuiet code chunk m n = Steps code chunk m n ⊎ ((fault : Catches code chunk m n) × (is_quiet fault.op ≡ true → IsKept fault))

-- a run by such moves, listed from its last state back to its first
abbrev pub IsRun : (Machine → Machine → Type 0) → Span → Machine → List Machine → Type 0
IsRun moves chunk m [] = m ≡ first chunk
IsRun moves chunk m (before ∷ earlier) = moves before m × IsRun moves chunk before earlier

abbrev pub IsKeptRun : Code → Span → Machine → List Machine → Type 0
IsKeptRun code chunk = IsRun (Moves code chunk) chunk

-- a run whose faults at quiet operations are kept
abbrev pub IsRunKeptAtQuiet : Code → Span → Machine → List Machine → Type 0
IsRunKeptAtQuiet code chunk = IsRun (MovesKeptAtQuiet code chunk) chunk

-- some kept run has this state
abbrev pub IsOnKeptRun : Code → Span → Machine → Type 0
IsOnKeptRun code chunk m = (earlier : List Machine) × IsKeptRun code chunk m earlier
