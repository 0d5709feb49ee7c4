-- Calls for which runs wait.
use Rattle.std.specs.Prelude.{ℕ, List, Option, Some, None, if◌then◌else◌}
use Rattle.rhai_values.specs.declared.value.Value.{Value}
use Rattle.rhai_runtime.specs.declared.asked.Asked.{Asked}
use Rattle.rhai_runtime.specs.declared.script.Script.{Script}

-- the bytes of the name of its function
abbrev pub asked_name : Asked → List ℕ
asked_name asked = asked.name.bytes.items

abbrev pub asked_arguments : Asked → List Value
asked_arguments asked = asked.arguments.items

-- the call for which the run of a script waits
abbrev pub asked_of : {W : Type 0} → Script W → Option Asked
asked_of script = if script.is_waiting then Some script.call else None
