-- What contracts see of a session, and what a host is shown of what happened to its state.
use Rattle.std.specs.Prelude.{◌≡◌, ◌⊎◌, ⊤, ℕ, true, false, List, [], ◌∷◌, MatchOption, Option, Result, Ok, Err, Some, None}
use Rattle.grain_base.specs.Place.{is_none, place_of}
use Rattle.grain_bytecode.specs.Positions.{place_at}
use Rattle.grain.specs.Program.{Program, places_of}
use Rattle.grain_flat_file.specs.declared.records.CValue.{CValue}
use Rattle.rhai_engine.specs.Session.{IsStopped, Reports, Session}
use Rattle.rhai_engine.specs.declared.event.BeginError.{BeginError}
use Rattle.rhai_engine.specs.declared.event.BeginError.TheVariants as begin_errors
use Rattle.rhai_engine.specs.declared.event.Event.{Event}
use Rattle.rhai_engine.specs.declared.event.Event.TheVariants as events
use Rattle.rhai_engine.specs.declared.event.Status.TheVariants as statuses
use Rattle.rhai_flat.specs.Forms.{flat_form}
use Rattle.rhai_flat.specs.Rows.{AreRowsOf}
use Rattle.rhai_chains.specs.declared.fault.Fault.{Fault}
use Rattle.rhai_values.specs.declared.cause.Cause.{Cause}
use Rattle.rhai_values.specs.declared.cause.Cause.TheVariants as causes
use Rattle.rhai_values.specs.declared.value.Value.{Value}
use Rattle.rhai_session.specs.declared.event.HostEvent.{HostEvent}
use Rattle.rhai_session.specs.declared.event.HostEvent.TheVariants as shown
use Rattle.rhai_session.specs.declared.event.Refused.{Refused}
use Rattle.rhai_session.specs.declared.failure.RunFailure.{RunFailure}
use Rattle.rhai_session.specs.Kinds.{kind_of}
use Rattle.rhai_session.specs.declared.event.Refused.TheVariants as refusals

-- Its state, how the last run ended if the host doesn't know yet, the values that are shown, and the last fault as a text and as
-- numbers.
pub record Shown : Type 0 where
  pub state : Session
  pub ended : Option HostEvent
  pub rows : List CValue
  pub texts : List ℕ
  pub count : ℕ
  pub fault : List ℕ
  pub failure : Option RunFailure

abbrev pub shown_of : Session → Option HostEvent → List CValue → List ℕ → ℕ → List ℕ → Option RunFailure → Shown
shown_of state ended rows texts count fault failure = record {
  state = state;
  ended = ended;
  rows = rows;
  texts = texts;
  count = count;
  fault = fault;
  failure = failure;
}

-- the last run waits for a call of the host, and the host knows
pub record WaitsForHost (s : Shown) : Type 0 where
  pub asked : s.state.status ≡ statuses.Calls
  pub told : s.ended ≡ None

-- rows, or bytes of a text, are refused for what they are
abbrev pub IsOfValue : Refused → Type 0
IsOfValue refusals.NoName = ⊥
IsOfValue refusals.NotNow = ⊥
IsOfValue refusals.BadValue = ⊤
IsOfValue refusals.OutOfMemory = ⊤

-- no value is shown
abbrev pub ShowsNothing : Shown → Type 0
ShowsNothing t = (t.rows ≡ []) × ((t.texts ≡ []) × (t.count ≡ 0))

-- this one value is shown, or none, as one in which a variable is shared has no rows
abbrev pub ShowsValue : Value → Shown → Type 0
ShowsValue value t = ((t.count ≡ 1) × AreRowsOf t.rows t.texts (flat_form value ∷ [])) ⊎ (t.count ≡ 0)

-- The failure says why and where a run of the program failed: at its address, and there in the source text by the table of the
-- program, or at the step of a chain.
pub record IsFailureOf (p : Program) (fault : Fault) (failure : RunFailure) : Type 0 where
  pub kind : kind_of fault.cause ≡ Some failure.kind
  pub at : failure.at ≡ fault.at
  pub by_table : is_none fault.step ≡ true → place_of failure.position ≡ place_at (places_of p) fault.at
  pub by_step : is_none fault.step ≡ false → failure.position ≡ fault.step

-- what is shown of a cause: the value that was thrown, and else none
abbrev pub ShowsCause : Cause → Shown → Type 0
ShowsCause (causes.Thrown value) t = ShowsValue value t
ShowsCause cause t = t.count ≡ 0

-- a fault is shown
pub record ShowsFault (fault : Fault) (t : Shown) : Type 0 where
  pub failure : MatchOption t.failure ⊥ (IsFailureOf t.state.program fault)
  pub thrown : ShowsCause fault.cause t

-- Each event has its own. To show a value or a fault takes memory, which may run out.
abbrev pub ShowsEvent : Event → HostEvent → Shown → Type 0
ShowsEvent events.Idle step t = step ≡ shown.Idle
ShowsEvent events.Paused step t = step ≡ shown.Paused
ShowsEvent events.Calls step t = step ≡ shown.Calls
ShowsEvent (events.Returned value) step t = ((step ≡ shown.Returned) × ShowsValue value t) ⊎ (step ≡ shown.OutOfMemory)
ShowsEvent (events.Failed fault) step t = ((step ≡ shown.Failed) × ShowsFault fault t) ⊎ (step ≡ shown.OutOfMemory)
ShowsEvent events.OutOfMemory step t = step ≡ shown.OutOfMemory

-- an event happened to the state, and this is shown
pub record Happened (s t : Shown) (step : HostEvent) : Type 0 where
  pub event : Event
  pub reports : Reports s.state t.state event
  pub shows : ShowsEvent event step t

-- The last run was resumed and made this many turns, and this is shown. If a call of the host had ended it before, that is shown.
abbrev pub IsResumed : Shown → Shown → HostEvent → ℕ → Type 0
IsResumed s t step turns = MatchOption s.ended (Happened s t step) (λ end. (step ≡ end) × ((turns ≡ 0) × (t ≡ record s { ended = None })))

-- what is kept of an event until the host resumes: nothing if the run can continue
abbrev pub IsKeptStep : Event → Option HostEvent → Shown → Type 0
IsKeptStep event None t = event ≡ events.Paused
IsKeptStep event (Some step) t = ShowsEvent event step t

-- a call of the host has ended, and how its run did is kept
pub record EndsCall (s t : Shown) : Type 0 where
  pub event : Event
  pub reports : Reports s.state t.state event
  pub shows : IsKeptStep event t.ended t

-- The last run is gone: it is stopped, unless it had ended by itself. Nothing waits to be said of it.
pub record IsStoppedOnce (s t : Shown) : Type 0 where
  pub stopped : MatchOption s.ended (IsStopped s.state t.state) (λ end. t.state ≡ s.state)
  pub silent : t.ended ≡ None

-- why a run doesn't begin, as hosts get it
abbrev pub begun_of : Result (Unit {0}) BeginError → Result (Unit {0}) Refused
begun_of (Ok done) = Ok done
begun_of (Err begin_errors.NoFunction) = Err refusals.NoName
begun_of (Err begin_errors.TooManyRuns) = Err refusals.NotNow
begun_of (Err begin_errors.Busy) = Err refusals.NotNow
begun_of (Err begin_errors.TooLarge) = Err refusals.BadValue
begun_of (Err begin_errors.OutOfMemory) = Err refusals.OutOfMemory
