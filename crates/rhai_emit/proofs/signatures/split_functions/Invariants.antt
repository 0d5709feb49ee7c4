use Rattle.std.proofs.Common.{◌≡◌, ◌++◌, map}
use Rattle.std.specs.Vec.Iter.{into_iter_items}
use Rattle.rhai_emit.specs.Bodies.{body_places}
use Rattle.rhai_emit.specs.Places.{function_places}
use Rattle.rhai_emit.proofs.signatures.split_functions.Given as goal

abbrev pub invariant-loop-function : goal.invariant-loop-function
invariant-loop-function l =
    map body_places l.bodies.items ++ map function_places (into_iter_items l.function-iterator) ≡ map function_places l.fn.functions.items
