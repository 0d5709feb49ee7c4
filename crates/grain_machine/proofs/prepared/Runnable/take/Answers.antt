use Rattle.std.proofs.Common.{ap, arith}
use Rattle.std.proofs.lemmas.Result.{on_ok_weaker}
use Rattle.grain_machine.proofs.Passing.{plain_back, plain_went}
use Rattle.grain_machine.proofs.Stopping.{handlers_of, raised}
use Rattle.grain_machine.proofs.prepared.Runnable.take.Goals as goal

pub returns-in-Ok-clause-goes : goal.returns-in-Ok-clause-goes
returns-in-Ok-clause-goes g c =
    let r = c.args.self.now in
    let s = c.args.frame.now in
    let left = c.in-Ok.ensures.ok in
    rw (c.go.ensures, left.2)
    (plain_went r s c.args.op.now c.args.next c.requires.at c.args.needs c.args.takes 0 c.requires.plain c.requires.within left.0 (let long = left.1 in omega arith))

pub returns-in-Err-clause-goes : goal.returns-in-Err-clause-goes
returns-in-Err-clause-goes g c =
    let r = c.args.self.now in
    let s = c.args.frame.now in
    on_ok_weaker c.raise.result
    (λ l. plain_back r s c.args.op.now c.args.next c.requires.at c.take.new.self c.raise.new.frame c.args.needs c.args.takes 0 c.requires.plain c.in-Err.ensures.err l
    c.raise.ensures.room) c.raise.ensures.lands

pub returns-in-Err-clause-ends : goal.returns-in-Err-clause-ends
returns-in-Err-clause-ends g c =
    raised c.args.self.now c.args.frame.now c.take.new.self c.args.op.now c.args.next c.raise.result c.requires.at c.requires.plain.sounds
    (ap handlers_of c.in-Err.ensures.err.2) c.raise.ensures.fault
