use Rattle.std.proofs.Common.{arith}
use Rattle.grain_machine.specs.State.{Replaces}
use Rattle.grain_machine.proofs.Passing.{plain_went}
use Rattle.grain_machine.proofs.QuickMoves.{on_false, on_true}
use Rattle.grain_machine.proofs.prepared.Runnable.quick_take.Goals as goal

pub returns-then-quick_take-clause-moves : goal.returns-then-quick_take-clause-moves
returns-then-quick_take-clause-moves g c =
    let r = c.args.self.now in
    let s = c.args.frame.now in
    let given : Replaces c.args.takes 0 s c.quick_take.new.self = on_true c.quick_take.result c.if-quick_take.true c.quick_take.ensures.taken in
    rw (c.go.ensures, given.2)
    (plain_went r s c.args.op.now c.args.next c.requires.at c.args.takes c.args.takes 0 c.requires.plain (omega arith) given.0 (let long = given.1 in omega arith))

pub returns-else-quick_take-clause-stays : goal.returns-else-quick_take-clause-stays
returns-else-quick_take-clause-stays g c = on_false c.quick_take.result c.if-quick_take.false c.quick_take.ensures.stays
