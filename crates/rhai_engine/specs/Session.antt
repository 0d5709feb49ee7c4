-- What contracts see of a state.
use Rattle.std.specs.Prelude.{◌≡◌, ◌≢◌, ◌≤◌, ◌<◌, ℕ, List, [], ◌∷◌, length}
use Rattle.grain_code.specs.Span.{Span}
use Rattle.grain.specs.Program.{Program}
use Rattle.rhai_runtime.specs.Named.{IsFunctionNamed}
use Rattle.rhai_engine.specs.Ends.{EndsRun}
use Rattle.rhai_engine.specs.declared.event.Event.{Event}
use Rattle.rhai_engine.specs.declared.event.Event.TheVariants as events
use Rattle.rhai_engine.specs.declared.event.Status.{Status}
use Rattle.rhai_engine.specs.declared.event.Status.TheVariants as statuses

-- Its program, how many frames of a run and how many runs may wait, how far the last run is, and the chunks of the runs that are
-- under way, the last that began first.
pub record Session : Type 0 where
  pub program : Program
  pub calls : ℕ
  pub nested : ℕ
  pub status : Status
  pub runs : List Span

-- a state without runs
abbrev pub idle : Program → ℕ → ℕ → Session
idle p calls nested = record { program = p; calls = calls; nested = nested; status = statuses.Idle; runs = [] }

-- the program and the limits stay
pub record KeepsProgram (s t : Session) : Type 0 where
  pub program : t.program ≡ s.program
  pub calls : t.calls ≡ s.calls
  pub nested : t.nested ≡ s.nested

-- a run of the chunk begins, and is the last
abbrev pub with_run : Session → Span → Session
with_run s chunk = record s { status = statuses.Ready; runs = chunk ∷ s.runs }

-- All runs that are under way wait for calls. As many may wait while another run is under way.
pub record TakesRun (s : Session) : Type 0 where
  pub waits : s.status ≢ statuses.Ready
  pub room : length s.runs ≤ s.nested

-- All runs that are under way wait for calls. Only fewer may wait while another run is under way.
pub record IsFull (s : Session) : Type 0 where
  pub waits : s.status ≢ statuses.Ready
  pub full : s.nested < length s.runs

-- A run of a function of the program begins, and is the last. The function has this name and this many parameters, and is
-- declared for no receiver.
pub record BeginsFunction (s t : Session) (name : List ℕ) (params : ℕ) : Type 0 where
  pub index : ℕ
  pub is : IsFunctionNamed s.program name params index
  pub begun : t ≡ with_run s is.function.chunk

-- The last run has ended as the event says: a kept run of its chunk ended so. The run outside it is the last.
pub record EndsLast (s t : Session) (event : Event) : Type 0 where
  pub chunk : Span
  pub was : s.runs ≡ chunk ∷ t.runs
  pub ends : EndsRun s.program s.calls chunk event

-- how an event reports the runs
abbrev pub Reports : Session → Session → Event → Type 0
Reports s t events.Paused = (t.runs ≡ s.runs) × (t.status ≡ statuses.Ready)
Reports s t events.Calls = (t.runs ≡ s.runs) × (t.status ≡ statuses.Calls)
Reports s t (events.Returned value) = EndsLast s t (events.Returned value)
Reports s t (events.Failed fault) = EndsLast s t (events.Failed fault)
Reports s t events.OutOfMemory = EndsLast s t events.OutOfMemory
Reports s t events.Idle = t ≡ s

-- the runs without the last one
abbrev pub outside_of : List Span → List Span
outside_of [] = []
outside_of (chunk ∷ runs) = runs

-- The last run is gone. The run that waits outside it is the last.
pub record IsStopped (s t : Session) : Type 0 where
  pub runs : t.runs ≡ outside_of s.runs
  pub waits : t.status ≢ statuses.Ready
