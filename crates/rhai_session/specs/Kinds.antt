-- Of which kind a cause is.
use Rattle.std.specs.Prelude.{Option, Some, None}
use Rattle.rhai_values.specs.declared.cause.Cause.{Cause}
use Rattle.rhai_values.specs.declared.cause.Cause.TheVariants as causes
use Rattle.rhai_values.specs.declared.cause.Reason.{Reason}
use Rattle.rhai_values.specs.declared.cause.Reason.TheVariants as reasons
use Rattle.rhai_session.specs.declared.failure.FaultKind.{FaultKind}
use Rattle.rhai_session.specs.declared.failure.FaultKind.TheVariants as kinds

-- A text that spells no number is of the wrong type.
abbrev pub kind_of_reason : Reason → FaultKind
kind_of_reason reasons.NoVariable = kinds.NoVariable
kind_of_reason reasons.NoFunction = kinds.NoFunction
kind_of_reason reasons.NoProperty = kinds.NoProperty
kind_of_reason reasons.Overflow = kinds.Overflow
kind_of_reason reasons.DivisionByZero = kinds.DivisionByZero
kind_of_reason reasons.NoNumber = kinds.WrongType
kind_of_reason reasons.World = kinds.Host

-- A lack of memory is an event of its own, and a script that ends itself doesn't fail.
abbrev pub kind_of : Cause → Option FaultKind
kind_of (causes.Thrown value) = Some kinds.Thrown
kind_of (causes.Detailed reason text) = Some (kind_of_reason reason)
kind_of (causes.WrongType wanted) = Some kinds.WrongType
kind_of (causes.OutOfBounds index len) = Some kinds.OutOfBounds
kind_of causes.NoThis = Some kinds.NoThis
kind_of causes.TooDeep = Some kinds.TooDeep
kind_of causes.TooLarge = Some kinds.TooLarge
kind_of (causes.Exited value) = None
kind_of causes.OutOfMemory = None
kind_of causes.Unsupported = Some kinds.Unsupported
