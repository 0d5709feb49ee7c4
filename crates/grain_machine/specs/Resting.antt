-- The frames of runs that pause.
use Rattle.std.specs.Prelude.{◌≡◌, ℕ}
use Rattle.std.specs.List.{All}
use Rattle.grain.specs.Program.{Program}
use Rattle.grain_machine.specs.Calls.{CallStack, Turns}
use Rattle.grain_machine.specs.Standing.{GivesHere, IsWaiting, stack_of, waiting_of}
use Rattle.grain_machine.specs.State.{IsRunnable, IsUnderWay, Replaces, Runs, state_of}
use Rattle.grain_machine.specs.declared.frames.Frames.{Frames}
use Rattle.grain_machine.specs.declared.frames.Going.{Going}
use Rattle.grain_machine.specs.declared.frames.Going.TheVariants as goings
use Rattle.grain_machine.specs.declared.frames.Parked.{Parked}

-- the chunk of the frame on top
abbrev pub parked_runs : {V I : Type 0} → Program → Parked V I → Runs
parked_runs p f = record { program = p; chunk = f.chunk; room = f.room }

abbrev pub parked_stack : {V I : Type 0} → Parked V I → CallStack V I
parked_stack f = record { top = record { chunk = f.chunk; machine = f.frame.machine }; callers = waiting_of f.callers.items }

-- Each frame is on a kept run of its chunk of the program. All but the one on top wait for functions that they called.
pub record IsParked {V I : Type 0} (p : Program) (f : Parked V I) : Type 0 where
  pub runs : IsRunnable (parked_runs p f)
  pub ready : IsUnderWay (parked_runs p f) (state_of f.frame)
  pub waiting : All (IsWaiting p) f.callers.items

-- the frame on top waits at an operation that gives a value, and only the operands that the host was lent may have changed
pub record IsLent {V I : Type 0} (f g : Frames V I) (taken behind : ℕ) : Type 0 where
  pub asking : GivesHere f.body (state_of f.frame) taken behind
  pub lent : Replaces taken taken f.frame g.frame
  pub body : g.body ≡ f.body
  pub callers : waiting_of g.callers.items ≡ waiting_of f.callers.items

-- the frames have made a turn, or the one on top waits for a value from the host
abbrev pub GoesOrWaits : {V I : Type 0} → Program → ℕ → Frames V I → Frames V I → Going → Type 0
GoesOrWaits p depth f g goings.On = Turns p depth (stack_of f) (stack_of g)
GoesOrWaits p depth f g (goings.Waits taken behind) = IsLent f g taken behind
