-- How runs end.
use Rattle.std.specs.Prelude.{◌≡◌, ◌<◌, ◌≤◌, ◌⊎◌, ℕ, List, [], ◌∷◌, Option, None, IsSome, length}
use Rattle.std.specs.List.{All}
use Rattle.grain_code.specs.declared.op.Op.{Op}
use Rattle.grain_code.specs.declared.op.Op.TheVariants as ops
use Rattle.grain_rules.specs.Code.{Code}
use Rattle.grain_rules.specs.Flow as flows
use Rattle.grain_rules.specs.Layout.{Reads}
use Rattle.grain_rules.specs.Machine.{IsKeptRun, IsOnKeptRun, Machine, innermost}
use Rattle.grain_rules.specs.Rows.{flow_of}
use Rattle.grain.specs.Program.{Program}
use Rattle.grain_machine.specs.Asked.{program_code}
use Rattle.grain_machine.specs.Calls.{Activation, CallStack, IsRunOfCalls, MayCall, Sounds, catcher, outermost_of}
use Rattle.grain_machine.specs.State.{Runs}
use Rattle.grain_machine.specs.Values.{ValueMachine, counted, top}
use Rattle.grain_machine.specs.declared.run.RunLimits.{RunLimits}
use Rattle.grain_machine.specs.declared.step.Outcome.{Outcome}
use Rattle.grain_machine.specs.declared.step.Outcome.TheVariants as outcomes

-- `Return` stands here, and the top of the operand stack is the value, if there is one
pub record Returns {V I : Type 0} (code : Code) (m : ValueMachine V I) (value : Option V) : Type 0 where
  pub stands : Reads code.layout m.address ops.Return
  pub value_is : value ≡ top m.operands

-- an operation stands here that begins an iterator or arms a handler
pub record WantsRoom (code : Code) (address : ℕ) : Type 0 where
  pub op : Op
  pub stands : Reads code.layout address op
  pub grows : (flow_of op ≡ flows.BeginsIterator) ⊎ ((target : ℕ) × (flow_of op ≡ flows.PushesHandler target))

-- An operation may end a frame so in this state. Only `Return` returns. No quiet operation faults. If a fault finds no
-- handler, all handlers have caught. Only iterators and handlers run out of memory.
abbrev pub MayEnd : {V I F : Type 0} → Code → ValueMachine V I → Outcome V F → Type 0
MayEnd code m (outcomes.Returned value) = Returns code m value
MayEnd code m (outcomes.Faulted fault) = Sounds code m.address × (innermost m.handlers ≡ None)
MayEnd code m (outcomes.Uncatchable fault) = Sounds code m.address × IsSome (innermost m.handlers)
MayEnd code m outcomes.OutOfFuel = ⊥
MayEnd code m outcomes.OutOfMemory = WantsRoom code m.address
MayEnd code m outcomes.Unanswered = ⊥

-- it is a fault, which finds these handlers
abbrev pub IsFault : {V I F : Type 0} → ValueMachine V I → Outcome V F → Type 0
IsFault m (outcomes.Returned value) = ⊥
IsFault m (outcomes.Faulted fault) = innermost m.handlers ≡ None
IsFault m (outcomes.Uncatchable fault) = IsSome (innermost m.handlers)
IsFault m outcomes.OutOfFuel = ⊥
IsFault m outcomes.OutOfMemory = ⊥
IsFault m outcomes.Unanswered = ⊥

-- it is a fault, which finds these frames
abbrev pub IsFaultOf : {V I F : Type 0} → List (Activation V I) → Outcome V F → Type 0
IsFaultOf frames (outcomes.Returned value) = ⊥
IsFaultOf frames (outcomes.Faulted fault) = catcher frames ≡ None
IsFaultOf frames (outcomes.Uncatchable fault) = IsSome (catcher frames)
IsFaultOf frames outcomes.OutOfFuel = ⊥
IsFaultOf frames outcomes.OutOfMemory = ⊥
IsFaultOf frames outcomes.Unanswered = ⊥

-- A turn may end a run so. Only `Return` returns, and only if no frame waits. No quiet operation faults. If a fault finds
-- no handler, all handlers of all frames have caught. Only iterators and handlers run out of memory.
abbrev pub StackEnds : {V I F : Type 0} → Program → CallStack V I → Outcome V F → Type 0
StackEnds p s (outcomes.Returned value) = Returns (program_code p) s.top.machine value × (s.callers ≡ [])
StackEnds p s (outcomes.Faulted fault) = Sounds (program_code p) s.top.machine.address × (catcher (s.top ∷ s.callers) ≡ None)
StackEnds p s (outcomes.Uncatchable fault) = Sounds (program_code p) s.top.machine.address × IsSome (catcher (s.top ∷ s.callers))
StackEnds p s outcomes.OutOfFuel = ⊥
StackEnds p s outcomes.OutOfMemory = WantsRoom (program_code p) s.top.machine.address
StackEnds p s outcomes.Unanswered = ⊥

-- A run within this fuel ends so after this number of turns: at an operation that ends it, or at one that gives a value, for which
-- the host would have it wait, or with its fuel spent.
abbrev pub EndsAfter : {V I F : Type 0} → Program → ℕ → ℕ → CallStack V I → Outcome V F → Type 0
EndsAfter p fuel turns s (outcomes.Returned value) = (turns < fuel) × Returns (program_code p) s.top.machine value × (s.callers ≡ [])
EndsAfter p fuel turns s (outcomes.Faulted fault) = (turns < fuel) × Sounds (program_code p) s.top.machine.address × (catcher (s.top ∷ s.callers) ≡ None)
EndsAfter p fuel turns s (outcomes.Uncatchable fault) = (turns < fuel) × Sounds (program_code p) s.top.machine.address × IsSome (catcher (s.top ∷ s.callers))
EndsAfter p fuel turns s outcomes.OutOfFuel = turns ≡ fuel
EndsAfter p fuel turns s outcomes.OutOfMemory = (turns < fuel) × WantsRoom (program_code p) s.top.machine.address
EndsAfter p fuel turns s outcomes.Unanswered = (turns < fuel) × (taken : ℕ) × (behind : ℕ) × MayCall p s.top taken behind

-- The outermost frame of a run is at this address on a kept run of its chunk, which has made no more moves than this.
pub record IsOutermost {V I : Type 0} (r : Runs) (a : Activation V I) (turns at : ℕ) : Type 0 where
  pub chunk : a.chunk ≡ r.chunk
  pub earlier : List Machine
  pub run : IsKeptRun (program_code r.program) r.chunk (counted a.machine) earlier
  pub moves : length earlier ≤ turns
  pub here : a.machine.address ≡ at

-- A run of the chunk within the limits ends so, at this address of the chunk; each frame is on a kept run of its
-- own chunk.
pub record IsEnded {V F : Type 0} (I : Type 0) (r : Runs) (limits : RunLimits) (at : ℕ) (outcome : Outcome V F) : Type 0 where
  pub stack : CallStack V I
  pub earlier : List (CallStack V I)
  pub run : IsRunOfCalls r.program limits.depth r.chunk stack earlier
  pub outermost : IsOutermost r (outermost_of stack) (length earlier) at
  pub kept : All (λ a. IsOnKeptRun (program_code r.program) a.chunk (counted a.machine)) (stack.top ∷ stack.callers)
  pub ends : EndsAfter r.program limits.fuel (length earlier) stack outcome
