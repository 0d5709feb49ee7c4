use Rattle.std.proofs.Common.{refl, ap}
use Rattle.grain_code.specs.declared.op.Op.TheVariants as ops
use Rattle.grain_machine.proofs.Passing.{popped_back}
use Rattle.std.proofs.lemmas.Result.{on_ok_weaker}
use Rattle.grain_machine.proofs.Stopping.{handlers_of, raised}
use Rattle.grain_machine.proofs.prepared.Runnable.throw.Goals as goal

pub returns-clause-goes : goal.returns-clause-goes
returns-clause-goes g c =
    let r = c.args.self.now in
    let s = c.args.frame.now in
    on_ok_weaker c.raise.result
    (λ l. popped_back r s ops.Throw c.args.next c.requires c.pop-value.new.self c.raise.new.frame refl refl c.pop-value.ensures.rest l c.raise.ensures.room) c.raise.ensures.lands

pub returns-clause-ends : goal.returns-clause-ends
returns-clause-ends g c =
    raised c.args.self.now c.args.frame.now c.pop-value.new.self ops.Throw c.args.next c.raise.result c.requires refl (ap handlers_of c.pop-value.ensures.rest) c.raise.ensures.fault
