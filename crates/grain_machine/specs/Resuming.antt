-- What runs that pause have done.
use Rattle.std.specs.Prelude.{◌≡◌, ◌+◌, ◌<◌, ⊤, ℕ, List, ◌∷◌, length}
use Rattle.std.specs.List.{All}
use Rattle.grain_code.specs.Span.{Span}
use Rattle.grain_rules.specs.Machine.{IsOnKeptRun}
use Rattle.grain.specs.Program.{Program}
use Rattle.grain_machine.specs.Asked.{IsAsked, program_code}
use Rattle.grain_machine.specs.Calls.{CallStack, IsRunOfCalls, outermost_of}
use Rattle.grain_machine.specs.Ends.{StackEnds}
use Rattle.grain_machine.specs.Resting.{IsParked, parked_runs, parked_stack}
use Rattle.grain_machine.specs.Standing.{GivesHere, waiting_of}
use Rattle.grain_machine.specs.State.{FrameState, Replaces, state_of}
use Rattle.grain_machine.specs.Values.{counted}
use Rattle.grain_machine.specs.declared.run.Progress.{Progress}
use Rattle.grain_machine.specs.declared.run.Progress.TheVariants as ways
use Rattle.grain_machine.specs.declared.run.Waiting.{Waiting}
use Rattle.grain_machine.specs.declared.run.RunLimits.{RunLimits}
use Rattle.grain_machine.specs.declared.step.Outcome.{Outcome}

-- A run of the chunk, with at most this number of frames that wait, has reached these frames after this number of turns. Each frame
-- is on a kept run of its own chunk.
pub record HasReached {V I : Type 0} (p : Program) (depth : ℕ) (chunk : Span) (turns : ℕ) (s : CallStack V I) : Type 0 where
  pub earlier : List (CallStack V I)
  pub run : IsRunOfCalls p depth chunk s earlier
  pub long : length earlier ≡ turns
  pub kept : All (λ a. IsOnKeptRun (program_code p) a.chunk (counted a.machine)) (s.top ∷ s.callers)

-- a run of the chunk has ended so after this number of turns, with its outermost frame at this address
pub record HasEnded {V F : Type 0} (I : Type 0) (p : Program) (depth : ℕ) (chunk : Span) (turns at : ℕ) (outcome : Outcome V F) : Type 0 where
  pub stack : CallStack V I
  pub reached : HasReached p depth chunk turns stack
  pub here : (outermost_of stack).machine.address ≡ at
  pub ends : StackEnds p stack outcome

-- the frames as they were when the host was asked for the value
abbrev pub stack_before : {V I : Type 0} → Waiting V I → FrameState V I → CallStack V I
stack_before w before = record { top = record { chunk = w.frames.chunk; machine = before.machine }; callers = waiting_of w.frames.callers.items }

-- After this number of turns a run of the chunk met an operation that gives a value. The host was asked for that operation, and
-- lent the operands that it takes. Since then only these operands may have changed.
pub record AwaitsValue {V I : Type 0} (p : Program) (depth : ℕ) (chunk : Span) (turns : ℕ) (w : Waiting V I) : Type 0 where
  pub before : FrameState V I
  pub asking : GivesHere (parked_runs p w.frames) (state_of before) w.takes w.next
  pub asked : IsAsked p w.frames.chunk before.machine.address asking.op w.takes
  pub lent : Replaces w.takes w.takes before w.frames.frame
  pub reached : HasReached p depth chunk turns (stack_before w before)

-- the frames are parked, and the one on top waits for the value of an operation
pub record IsAwaiting {V I : Type 0} (p : Program) (w : Waiting V I) : Type 0 where
  pub parked : IsParked p w.frames
  pub asking : GivesHere (parked_runs p w.frames) (state_of w.frames.frame) w.takes w.next

-- what is left of a run can be continued
abbrev pub IsResumable : {V I F : Type 0} → Program → Progress V I F → Type 0
IsResumable p (ways.Paused f) = IsParked p f
IsResumable p (ways.Waits w made) = IsAwaiting p w
IsResumable p (ways.Ended ending made) = ⊤

-- A run that had made this number of turns has made as many more as the fuel allowed, or waits or has ended after fewer.
abbrev pub Progresses : {V I F : Type 0} → Program → RunLimits → Span → ℕ → Progress V I F → Type 0
Progresses p limits chunk turns (ways.Paused f) = HasReached p limits.depth chunk (turns + limits.fuel) (parked_stack f)
Progresses p limits chunk turns (ways.Waits w made) = (made < limits.fuel) × AwaitsValue p limits.depth chunk (turns + made) w
Progresses {V} {I} {F} p limits chunk turns (ways.Ended ending made) =
    (made < limits.fuel) × HasEnded I p limits.depth chunk (turns + made) ending.at ending.outcome
