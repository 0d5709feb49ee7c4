-- The runs of a state.
use Rattle.std.specs.Prelude.{◌≡◌, ◌≢◌, ⊤, ℕ, List, [], ◌∷◌, ◌++◌, map, reverse}
use Rattle.std.specs.List.{All}
use Rattle.grain_code.specs.Span.{Span}
use Rattle.grain.specs.Program.{Program}
use Rattle.grain_machine.specs.Resting.{IsParked, parked_stack}
use Rattle.grain_machine.specs.Resuming.{AwaitsValue, HasReached, IsAwaiting}
use Rattle.grain_machine.specs.declared.frames.Parked.{Parked}
use Rattle.rhai_values.specs.declared.value.Value.{Value}
use Rattle.rhai_values.specs.declared.walk.Walk.{Walk}
use Rattle.rhai_engine.specs.Ends.{EndsRun}
use Rattle.rhai_engine.specs.Session.{Session}
use Rattle.rhai_engine.specs.declared.event.Event.{Event}
use Rattle.rhai_engine.specs.declared.event.Event.TheVariants as events
use Rattle.rhai_engine.specs.declared.event.Status.{Status}
use Rattle.rhai_engine.specs.declared.event.Status.TheVariants as statuses
use Rattle.rhai_engine.specs.declared.stage.Calling.{Calling}
use Rattle.rhai_engine.specs.declared.stage.Stage.{Stage}
use Rattle.rhai_engine.specs.declared.stage.Stage.TheVariants as stages

-- a run of the chunk, with at most this number of frames that wait, has reached these frames after some number of turns
pub record IsPausedRun (p : Program) (depth : ℕ) (chunk : Span) (run : Parked Value Walk) : Type 0 where
  pub parked : IsParked p run
  pub turns : ℕ
  pub reached : HasReached p depth chunk turns (parked_stack run)

-- a run of its chunk waits, after some number of turns, for the value of an operation
pub record IsAskingRun (p : Program) (depth : ℕ) (c : Calling) : Type 0 where
  pub awaiting : IsAwaiting p c.run
  pub turns : ℕ
  pub awaits : AwaitsValue p depth c.chunk turns c.run

-- the same, whatever the limit on frames that wait
pub record IsAskingSomehow (p : Program) (c : Calling) : Type 0 where
  pub depth : ℕ
  pub calling : IsAskingRun p depth c

-- what is known of the last run
abbrev pub IsStageOf : Program → ℕ → Stage → Type 0
IsStageOf p depth stages.Empty = ⊤
IsStageOf p depth (stages.Ready chunk run) = IsPausedRun p depth chunk run
IsStageOf p depth (stages.Asking calling) = IsAskingRun p depth calling

-- if no run is the last, none waits
abbrev pub IsLast : Stage → List Calling → Type 0
IsLast stages.Empty outer = outer ≡ []
IsLast (stages.Ready chunk run) outer = ⊤
IsLast (stages.Asking calling) outer = ⊤

-- what is known of all runs: the last, and those that wait while it is under way
pub record AreRunsOf (p : Program) (depth : ℕ) (stage : Stage) (outer : List Calling) : Type 0 where
  pub held : IsStageOf p depth stage
  pub waiting : All (IsAskingRun p depth) outer
  pub alone : IsLast stage outer

abbrev pub stage_status : Stage → Status
stage_status stages.Empty = statuses.Idle
stage_status (stages.Ready chunk run) = statuses.Ready
stage_status (stages.Asking calling) = statuses.Calls

-- the chunk of the last run, if there is one
abbrev pub stage_chunks : Stage → List Span
stage_chunks stages.Empty = []
stage_chunks (stages.Ready chunk run) = chunk ∷ []
stage_chunks (stages.Asking calling) = calling.chunk ∷ []

abbrev pub asking_chunk : Calling → Span
asking_chunk calling = calling.chunk

-- the chunks of the runs that wait, the last that began first
abbrev pub outer_chunks : List Calling → List Span
outer_chunks outer = map asking_chunk (reverse outer)

-- the chunks of all runs that are under way, the last that began first
abbrev pub run_chunks : Stage → List Calling → List Span
run_chunks stage outer = stage_chunks stage ++ outer_chunks outer

-- a run that is under way stays the last; if it has ended, no run is the last that can continue
abbrev pub KeepsStage : Stage → Stage → Type 0
KeepsStage stages.Empty last = stage_status last ≢ statuses.Ready
KeepsStage (stages.Ready chunk run) last = last ≡ stages.Ready chunk run
KeepsStage (stages.Asking calling) last = last ≡ stages.Asking calling

-- the last run, if there is one, waits
abbrev pub MayBegin : Stage → Type 0
MayBegin stages.Empty = ⊤
MayBegin (stages.Ready chunk run) = ⊥
MayBegin (stages.Asking calling) = ⊤

-- the last run is the one that has begun
abbrev pub IsNewest : Stage → Span → Parked Value Walk → Type 0
IsNewest last chunk run = last ≡ stages.Ready chunk run

-- what contracts see of a state
abbrev pub session : Program → ℕ → ℕ → Stage → List Calling → Session
session p calls nested last outer = record {
  program = p;
  calls = calls;
  nested = nested;
  status = stage_status last;
  runs = run_chunks last outer;
}

-- a run of the chunk is so far now, or has ended, and the event says so
abbrev pub FitsEvent : Program → ℕ → Span → Stage → Event → Type 0
FitsEvent p depth chunk stages.Empty event = EndsRun p depth chunk event
FitsEvent p depth chunk (stages.Ready c run) event = (c ≡ chunk) × (event ≡ events.Paused)
FitsEvent p depth chunk (stages.Asking calling) event = (calling.chunk ≡ chunk) × (event ≡ events.Calls)

-- a run of the chunk has continued to here
pub record Continues (p : Program) (depth : ℕ) (chunk : Span) (stage : Stage) (event : Event) : Type 0 where
  pub held : IsStageOf p depth stage
  pub follows : FitsEvent p depth chunk stage event
