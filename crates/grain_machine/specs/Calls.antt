-- Runs that call functions of their own program.
use Rattle.std.specs.Prelude.{◌≡◌, ◌+◌, ◌-◌, ◌<◌, ◌⊎◌, ℕ, false, List, [], ◌∷◌, ◌++◌, Option, Some, None, IfSome, length, slice_get}
use Rattle.std.specs.Option.{option_map_or}
use Rattle.grain_code.specs.Span.{Span}
use Rattle.grain_code.specs.declared.op.Op.{Op}
use Rattle.grain_code.specs.declared.op.Op.TheVariants as ops
use Rattle.grain_rules.specs.Code.{Code}
use Rattle.grain_rules.specs.Layout.{Reads, next as place_behind}
use Rattle.grain_rules.specs.Machine.{Finds, Moves, innermost}
use Rattle.grain_rules.specs.Rows.{is_quiet}
use Rattle.grain.specs.Program.{Program, chunks_of, setting_of}
use Rattle.grain_machine.specs.Asked.{IsForHost, program_code}
use Rattle.grain_machine.specs.Values.{KeepsFirst, Lands, PassesOn, ValueMachine, below, counted, top}

-- a frame: the chunk that it runs, and where that run stands
pub record Activation (V I : Type 0) : Type 0 where
  pub chunk : Span
  pub machine : ValueMachine V I

-- the frame that runs, and those that wait for it, the last that called first
pub record CallStack (V I : Type 0) : Type 0 where
  pub top : Activation V I
  pub callers : List (Activation V I)

abbrev pub begins : {V I : Type 0} → Span → Activation V I
begins chunk = record { chunk = chunk; machine = record { address = chunk.entry; operands = []; iterators = []; handlers = [] } }

abbrev pub outermost_from : {V I : Type 0} → Activation V I → List (Activation V I) → Activation V I
outermost_from a [] = a
outermost_from a (b ∷ bs) = outermost_from b bs

abbrev pub outermost_of : {V I : Type 0} → CallStack V I → Activation V I
outermost_of s = outermost_from s.top s.callers

-- the innermost frame that has a handler which isn't spent, and the frames outside it
abbrev pub catcher : {V I : Type 0} → List (Activation V I) → Option (Activation V I × List (Activation V I))
catcher [] = None
catcher (a ∷ outer) = option_map_or (λ _. Some (a, outer)) (innermost a.machine.handlers) (catcher outer)

-- an operation stands here that isn't quiet
pub record Sounds (code : Code) (address : ℕ) : Type 0 where
  pub op : Op
  pub stands : Reads code.layout address op
  pub sounds : is_quiet op ≡ false

-- the frame finds an operation here that takes this number of operands and gives a value, and behind which this stands
pub record MayCall {V I : Type 0} (p : Program) (a : Activation V I) (taken behind : ℕ) : Type 0 where
  pub op : Op
  pub finds : Finds (program_code p) a.chunk (counted a.machine) op
  pub gives : IsForHost (setting_of p) op taken taken 1
  pub next : behind ≡ place_behind (program_code p).layout a.machine.address op

-- a frame makes a move of a kept run of its chunk
pub record MovesOn {V I : Type 0} (p : Program) (a b : Activation V I) : Type 0 where
  pub chunk : b.chunk ≡ a.chunk
  pub moves : Moves (program_code p) a.chunk (counted a.machine) (counted b.machine)
  pub passes : PassesOn p a.machine b.machine

-- the frame on top makes a move, and the others wait
pub record IsMoved {V I : Type 0} (p : Program) (s t : CallStack V I) : Type 0 where
  pub goes : MovesOn p s.top t.top
  pub callers : t.callers ≡ s.callers

-- the frame waits where it is; of its operands only the topmost, which the host was lent, may have changed
pub record Waits {V I : Type 0} (taken : ℕ) (a b : Activation V I) : Type 0 where
  pub chunk : b.chunk ≡ a.chunk
  pub counts : counted b.machine ≡ counted a.machine
  pub operands : KeepsFirst (length a.machine.operands - taken) a.machine.operands b.machine.operands
  pub iterators : b.machine.iterators ≡ a.machine.iterators

-- the frame on top calls a function of the program, and waits for it; fewer frames than the depth wait already
pub record IsCalled {V I : Type 0} (p : Program) (depth : ℕ) (s t : CallStack V I) : Type 0 where
  pub function : ℕ
  pub chunk : Span
  pub taken : ℕ
  pub behind : ℕ
  pub caller : Activation V I
  pub may : MayCall p s.top taken behind
  pub there : slice_get (chunks_of p) (function + 1) ≡ Some chunk
  pub top : t.top ≡ begins chunk
  pub waits : Waits taken s.top caller
  pub callers : t.callers ≡ caller ∷ s.callers
  pub within : length s.callers < depth

-- The last frame that called goes on behind its operation, with a value in the place of what that takes: what was returned, if
-- that was one.
pub record IsGivenBack {V I : Type 0} (p : Program) (callers : List (Activation V I)) (returned : Option V) (t : CallStack V I) : Type 0 where
  pub caller : Activation V I
  pub called : callers ≡ caller ∷ t.callers
  pub taken : ℕ
  pub behind : ℕ
  pub value : V
  pub may : MayCall p caller taken behind
  pub given : IfSome returned (λ v. value ≡ v)
  pub goes : MovesOn p caller t.top
  pub lands : t.top.machine ≡ record caller.machine { address = behind; operands = below taken caller.machine.operands ++ value ∷ [] }

-- a fault lands in the innermost of these frames that has a handler which isn't spent, and those inside it end
pub record IsCaughtBy {V I : Type 0} (p : Program) (callers : List (Activation V I)) (t : CallStack V I) : Type 0 where
  pub caller : Activation V I
  pub catches : catcher callers ≡ Some (caller, t.callers)
  pub goes : MovesOn p caller t.top
  pub lands : Lands caller.machine t.top.machine

-- the frame on top returns, with the top of its operands
pub record IsReturned {V I : Type 0} (p : Program) (s t : CallStack V I) : Type 0 where
  pub returns : Reads (program_code p).layout s.top.machine.address ops.Return
  pub back : IsGivenBack p s.callers (top s.top.machine.operands) t

-- a fault leaves the frame on top, whose handlers have all caught, at an operation that isn't quiet
pub record IsAbandoned {V I : Type 0} (p : Program) (s t : CallStack V I) : Type 0 where
  pub sounds : Sounds (program_code p) s.top.machine.address
  pub uncaught : innermost s.top.machine.handlers ≡ None
  pub caught : IsCaughtBy p s.callers t

-- a fault at the frame on top is caught, by a handler of that frame or of one that waits
abbrev pub IsRaised : {V I : Type 0} → Program → CallStack V I → CallStack V I → Type 0
IsRaised p s t = IsMoved p s t ⊎ IsAbandoned p s t

-- a turn of a run, whose frames wait up to this depth
abbrev pub Turns : {V I : Type 0} → Program → ℕ → CallStack V I → CallStack V I → Type 0
Turns p depth s t = IsRaised p s t ⊎ IsCalled p depth s t ⊎ IsReturned p s t

-- a run of the chunk by such turns, from its last state back to its first
abbrev pub IsRunOfCalls : {V I : Type 0} → Program → ℕ → Span → CallStack V I → List (CallStack V I) → Type 0
IsRunOfCalls p depth chunk s [] = s ≡ record { top = begins chunk; callers = [] }
IsRunOfCalls p depth chunk s (before ∷ earlier) = Turns p depth before s × IsRunOfCalls p depth chunk before earlier
