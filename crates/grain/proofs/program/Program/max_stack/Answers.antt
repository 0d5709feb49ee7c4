use Rattle.grain.proofs.Declared.{greatest_more}
use Rattle.grain.proofs.program.Program.max_stack.Goals as goal

pub loop-function-preserved : goal.loop-function-preserved
loop-function-preserved c =
    rw (c.max-most.ensures, c.max_stack.ensures) (greatest_more c.args.self.now.main c.deref-function-items.result.now c.loop-function.function-index c.function-item.result
    c.loop-function.most c.loop-function-test.true c.function-item.is c.loop-function.invariant)
