-- How the frames of a run stand.
use Rattle.std.specs.Prelude.{◌≡◌, ◌<◌, ℕ, false, List, length, map, reverse}
use Rattle.std.specs.List.{All}
use Rattle.grain_code.specs.declared.op.Op.{Op}
use Rattle.grain_rules.specs.Rows.{is_quiet}
use Rattle.grain.specs.Program.{Program, setting_of}
use Rattle.grain_machine.specs.Asked.{IsForHost}
use Rattle.grain_machine.specs.Calls.{Activation, CallStack}
use Rattle.grain_machine.specs.State.{FrameState, IsAt, IsUnderWay, MakesMove, Replaces, Runs, State, state_of}
use Rattle.grain_machine.specs.declared.frames.Caller.{Caller}
use Rattle.grain_machine.specs.declared.frames.Frames.{Frames}
use Rattle.grain_machine.specs.declared.step.Turn.{Turn}
use Rattle.grain_machine.specs.declared.step.Turn.TheVariants as turns

-- the run stands at an operation that isn't quiet, behind which this stands
pub record MayCallHere (r : Runs) (s : State) (behind : ℕ) : Type 0 where
  pub op : Op
  pub at : IsAt r s op behind
  pub sounds : is_quiet op ≡ false

-- the run stands at an operation that takes this number of operands and gives a value, for which a function of the program is to be run
pub record IsCalling (r : Runs) (s : State) (function taken behind : ℕ) : Type 0 where
  pub op : Op
  pub at : IsAt r s op behind
  pub gives : IsForHost (setting_of r.program) op taken taken 1
  pub within : function < length r.program.functions

-- the run stands at an operation that takes this number of operands and gives a value
pub record GivesHere (r : Runs) (s : State) (taken behind : ℕ) : Type 0 where
  pub op : Op
  pub at : IsAt r s op behind
  pub gives : IsForHost (setting_of r.program) op taken taken 1

-- The run has made a move, or waits where it stands for a function or for a value from the host. Then the host may have taken the
-- arguments out of the operands.
abbrev pub DoesTurn : {V I : Type 0} → Runs → FrameState V I → FrameState V I → Turn → Type 0
DoesTurn r s t turns.Moved = MakesMove r s t
DoesTurn r s t (turns.Calls function taken behind) = IsCalling r (state_of s) function taken behind × Replaces taken taken s t
DoesTurn r s t (turns.Waits taken behind) = GivesHere r (state_of s) taken behind × Replaces taken taken s t

-- the chunk of a frame that waits
abbrev pub runs_of : {V I : Type 0} → Program → Caller V I → Runs
runs_of p c = record { program = p; chunk = c.chunk; room = c.room }

-- the frame is under way in the program, and waits at an operation that gives a value
pub record IsWaiting {V I : Type 0} (p : Program) (c : Caller V I) : Type 0 where
  pub op : Op
  pub at : IsAt (runs_of p c) (state_of c.frame) op c.next
  pub gives : IsForHost (setting_of p) op c.takes c.takes 1

-- each frame is under way in the program, and all but the one on top wait
pub record IsStanding {V I : Type 0} (p : Program) (f : Frames V I) : Type 0 where
  pub program : f.body.program ≡ p
  pub ready : IsUnderWay f.body (state_of f.frame)
  pub waiting : All (IsWaiting p) f.callers.items

abbrev pub activation_of : {V I : Type 0} → Caller V I → Activation V I
activation_of c = record { chunk = c.chunk; machine = c.frame.machine }

-- the last that called first
abbrev pub waiting_of : {V I : Type 0} → List (Caller V I) → List (Activation V I)
waiting_of all = map activation_of (reverse all)

abbrev pub stack_of : {V I : Type 0} → Frames V I → CallStack V I
stack_of f = record { top = record { chunk = f.body.chunk; machine = f.frame.machine }; callers = waiting_of f.callers.items }
