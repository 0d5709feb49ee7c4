use Rattle.rhai_runtime.proofs.Searches.{found_first, found_named, none_first}
use Rattle.rhai_runtime.proofs.script.Script.function.Goals as goal

pub returns-clause-found : goal.returns-clause-found
returns-clause-found g c = c.is_function_named.ensures c.if-is_function_named.true

pub returns-clause-none : goal.returns-clause-none
returns-clause-none g c =
    found_named c.args.program.now c.args.name.now c.args.params c.in-Some.index (c.is_function_named.ensures c.if-is_function_named.true)

pub returns-2-clause-found : goal.returns-2-clause-found
returns-2-clause-found g c =
    found_first c.args.program.now c.args.name.now c.args.params c.first_function.result c.first_function.ensures

pub returns-2-clause-none : goal.returns-2-clause-none
returns-2-clause-none g c =
    none_first c.args.program.now c.args.name.now c.args.params c.first_function.result c.first_function.ensures
