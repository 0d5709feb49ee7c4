use Rattle.std.proofs.Common.{◌≡◌, List, Some, length, refl, slice_get, subst, sym, ◌∙◌}
use Rattle.std.proofs.lemmas.Option.{slice_get_read}
use Rattle.grain_code.specs.declared.function.Function.{Function}
use Rattle.rhai_runtime.proofs.named.is_function_named.Goals as goal

pub returns-in-Some : goal.returns-in-Some
returns-in-Some c named =
    let functions = c.functions.result.now in
    let function = c.in-Some.function.now in
    let within = c.in-Some.ensures.lookup.3 in
    let there = slice_get_read functions (length functions) c.args.index function refl within.0 (within.1 function) in
    record {
      function = function;
      there = subst (λ (all : List Function). slice_get all c.args.index ≡ Some function) c.functions.ensures there;
      named = sym c.is_named.ensures ∙ named;
    }
