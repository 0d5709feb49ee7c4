-- Events by which runs end.
use Rattle.std.specs.Prelude.{◌≡◌, ◌≢◌, ⊤, ℕ, List, [], Option, Some, None}
use Rattle.grain_code.specs.Span.{Span}
use Rattle.grain.specs.Program.{Program}
use Rattle.grain_machine.specs.Resuming.{HasEnded}
use Rattle.grain_machine.specs.declared.step.Outcome.{Outcome}
use Rattle.grain_machine.specs.declared.step.Outcome.TheVariants as outcomes
use Rattle.rhai_values.specs.declared.cause.Cause.{Cause}
use Rattle.rhai_values.specs.declared.cause.Cause.TheVariants as causes
use Rattle.rhai_values.specs.declared.value.Value.{Value}
use Rattle.rhai_values.specs.declared.value.Value.TheVariants as values
use Rattle.rhai_values.specs.declared.walk.Walk.{Walk}
use Rattle.rhai_chains.specs.declared.fault.Fault.{Fault}
use Rattle.rhai_engine.specs.declared.event.BeginError.{BeginError}
use Rattle.rhai_engine.specs.declared.event.BeginError.TheVariants as refusals
use Rattle.rhai_engine.specs.declared.event.Event.{Event}
use Rattle.rhai_engine.specs.declared.event.Event.TheVariants as events

-- a run that pauses ends in no other way
abbrev pub CanEnd : Outcome Value Fault → Type 0
CanEnd (outcomes.Returned value) = ⊤
CanEnd (outcomes.Faulted fault) = ⊤
CanEnd (outcomes.Uncatchable fault) = ⊤
CanEnd outcomes.OutOfFuel = ⊥
CanEnd outcomes.OutOfMemory = ⊤
CanEnd outcomes.Unanswered = ⊥

-- what a run returned, which is unit if that is no value
abbrev pub value_or_unit : Option Value → Value
value_or_unit (Some value) = value
value_or_unit None = values.Unit

-- what a script that ends itself gives is returned
abbrev pub end_by : Cause → Fault → Event
end_by (causes.Exited value) fault = events.Returned value
end_by cause fault = events.Failed fault

abbrev pub event_of_fault : Fault → Event
event_of_fault fault = end_by fault.cause fault

abbrev pub event_of : Outcome Value Fault → Event
event_of (outcomes.Returned value) = events.Returned (value_or_unit value)
event_of (outcomes.Faulted fault) = event_of_fault fault
event_of (outcomes.Uncatchable fault) = event_of_fault fault
event_of outcomes.OutOfFuel = events.Paused
event_of outcomes.OutOfMemory = events.OutOfMemory
event_of outcomes.Unanswered = events.Calls

-- a kept run of the chunk, with at most this number of frames that wait, has ended as the event says
pub record EndsRun (p : Program) (depth : ℕ) (chunk : Span) (event : Event) : Type 0 where
  pub turns : ℕ
  pub at : ℕ
  pub outcome : Outcome Value Fault
  pub ended : HasEnded Walk p depth chunk turns at outcome
  pub is : event ≡ event_of outcome

-- a run of a function doesn't begin because of those that are under way
abbrev pub IsEarly : BeginError → Type 0
IsEarly refusals.NoFunction = ⊥
IsEarly refusals.TooManyRuns = ⊤
IsEarly refusals.Busy = ⊤
IsEarly refusals.TooLarge = ⊥
IsEarly refusals.OutOfMemory = ⊥

-- a run of a function with these arguments doesn't begin for another reason than those that are under way
abbrev pub IsLate : List Value → BeginError → Type 0
IsLate arguments refusals.NoFunction = ⊤
IsLate arguments refusals.TooManyRuns = ⊥
IsLate arguments refusals.Busy = ⊥
IsLate arguments refusals.TooLarge = arguments ≢ []
IsLate arguments refusals.OutOfMemory = ⊤
