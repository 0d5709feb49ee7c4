use Rattle.std.proofs.Common.{◌<◌, ◌∙◌, length, slice_index_or, ap, arith}
use Rattle.std.proofs.Math.Seq.{map-set_same}
use Rattle.std.proofs.lemmas.List.{length-set}
use Rattle.grain_code.specs.Span.{Span, undeclared_chunk}
use Rattle.grain_code.specs.declared.function.Function.{Function}
use Rattle.grain.specs.Tightened.{undeclared_function}
use Rattle.grain.proofs.Declared.{declared_next}
use Rattle.grain.proofs.tighten.declare_all.Goals as goal

pub loop-index-preserved : goal.loop-index-preserved
loop-index-preserved c =
    let h = c.loop-index.invariant in
    let i = c.loop-index.index in
    let functions = c.loop-index.functions in
    let old = c.index-functions-index.result in
    let f : Function = record (slice_index_or functions i old) { chunk = c.set_max_stack.new.self } in
    let inside : i < length functions = omega arith in
    let numbered : i < length c.args.numbers.now = omega arith in
    record {
      long = length-set functions i f ∙ h.long;
      declared = declared_next functions c.args.numbers.now i f 0 inside numbered (ap (λ (s : Span). s.max_stack) c.set_max_stack.ensures) h.declared;
      rest = map-set_same undeclared_function functions i f old (λ k. record f { chunk = undeclared_chunk (c.set_max_stack.ensures k) }) ∙ h.rest;
    }
