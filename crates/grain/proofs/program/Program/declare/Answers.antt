use Rattle.std.proofs.Common.{◌<◌, length, ap, arith}
use Rattle.std.proofs.lemmas.List.{with_items_is}
use Rattle.grain_code.specs.Span.{Span}
use Rattle.grain.proofs.Declared.{all_declared}
use Rattle.grain.proofs.program.Program.declare.Goals as goal

pub returns-clause-declared : goal.returns-clause-declared
returns-clause-declared c =
    let functions = with_items_is c.self.inside.functions c.declare_all.new.functions (let h = c.declare_all.auto.functions in let k = c.deref_mut.ensures.len in omega arith) in
    let some : 0 < length c.args.numbers.now = omega arith in
    all_declared c.args.numbers.now c.set_max_stack.new.self.max_stack c.declare_all.new.functions _ functions (ap (λ (s : Span). s.max_stack) c.set_max_stack.ensures) c.declare_all.ensures.declared some
