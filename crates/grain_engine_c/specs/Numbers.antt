-- Events of runs, why they fail, and why calls are refused, by number.
use Rattle.std.specs.Prelude.{◌≡◌, ℕ, Option, Some, None, Result, Ok, Err}
use Rattle.grain_base.specs.Place.{column_of, line_of}
use Rattle.rhai_session.specs.declared.event.HostEvent.{HostEvent}
use Rattle.rhai_session.specs.declared.event.HostEvent.TheVariants as shown
use Rattle.rhai_session.specs.declared.event.Refused.{Refused}
use Rattle.rhai_session.specs.declared.event.Refused.TheVariants as refusals
use Rattle.rhai_session.specs.declared.failure.RunFailure.{RunFailure}
use Rattle.rhai_session.specs.declared.failure.FaultKind.{FaultKind}
use Rattle.rhai_session.specs.declared.failure.FaultKind.TheVariants as kinds
use Rattle.grain_engine_c.specs.declared.events.TheConstants as events
use Rattle.grain_engine_c.specs.declared.failures.TheConstants as faults
use Rattle.grain_engine_c.specs.declared.records.CFailure.{CFailure}
use Rattle.grain_engine_c.specs.declared.status.TheConstants as statuses

abbrev pub event_number : HostEvent → ℕ
event_number shown.Idle = events.IDLE
event_number shown.Returned = events.RETURNED
event_number shown.Calls = events.CALLS
event_number shown.Paused = events.PAUSED
event_number shown.Failed = events.FAULTED
event_number shown.OutOfMemory = events.OUT_OF_MEMORY

abbrev pub status_number : Result (Unit {0}) Refused → ℕ
status_number (Ok done) = statuses.ACCEPTED
status_number (Err refusals.NoName) = statuses.NO_NAME
status_number (Err refusals.NotNow) = statuses.NOT_NOW
status_number (Err refusals.BadValue) = statuses.BAD_VALUE
status_number (Err refusals.OutOfMemory) = statuses.OUT_OF_MEMORY

abbrev pub kind_number : FaultKind → ℕ
kind_number kinds.Thrown = faults.THROWN
kind_number kinds.NoVariable = faults.NO_VARIABLE
kind_number kinds.NoFunction = faults.NO_FUNCTION
kind_number kinds.NoProperty = faults.NO_PROPERTY
kind_number kinds.WrongType = faults.WRONG_TYPE
kind_number kinds.Overflow = faults.OVERFLOW
kind_number kinds.DivisionByZero = faults.DIVISION_BY_ZERO
kind_number kinds.OutOfBounds = faults.OUT_OF_BOUNDS
kind_number kinds.NoThis = faults.NO_THIS
kind_number kinds.TooDeep = faults.TOO_DEEP
kind_number kinds.TooLarge = faults.TOO_LARGE
kind_number kinds.Host = faults.HOST
kind_number kinds.Unsupported = faults.UNSUPPORTED

-- a line or a column, and 0 if it isn't known
abbrev pub number_or_zero : Option ℕ → ℕ
number_or_zero None = 0
number_or_zero (Some n) = n

-- the record says what the failure does
pub record IsFailureRecord (c : CFailure) (failure : RunFailure) : Type 0 where
  pub kind : c.kind ≡ kind_number failure.kind
  pub line : c.line ≡ number_or_zero (line_of failure.position)
  pub column : c.column ≡ number_or_zero (column_of failure.position)
  pub at : c.at ≡ failure.at
