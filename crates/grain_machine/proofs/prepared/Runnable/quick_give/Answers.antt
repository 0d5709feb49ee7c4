use Rattle.std.proofs.Common.{◌+◌, ◌-◌, ◌≤◌, length, arith}
use Rattle.grain_machine.specs.State.{Replaces, state_of}
use Rattle.grain_machine.proofs.Moves.{plain_room}
use Rattle.grain_machine.proofs.Passing.{plain_went}
use Rattle.grain_machine.proofs.QuickMoves.{on_false, on_true}
use Rattle.grain_machine.proofs.prepared.Runnable.quick_give.Goals as goal

pub quick_give-requires-clause-room : goal.quick_give-requires-clause-room
quick_give-requires-clause-room g c =
    let r = c.args.self.now in
    let s = c.args.frame.now in
    let h : length s.machine.operands - c.args.takes + 1 ≤ s.room = plain_room r (state_of s) c.args.op.now c.args.next c.args.takes c.args.takes 1 c.requires.at c.requires.plain in
    omega arith

pub returns-then-quick_give-clause-moves : goal.returns-then-quick_give-clause-moves
returns-then-quick_give-clause-moves g c =
    let r = c.args.self.now in
    let s = c.args.frame.now in
    let given : Replaces c.args.takes 1 s c.quick_give.new.self = on_true c.quick_give.result c.if-quick_give.true c.quick_give.ensures.given in
    rw (c.go.ensures, given.2)
    (plain_went r s c.args.op.now c.args.next c.requires.at c.args.takes c.args.takes 1 c.requires.plain (omega arith) given.0 (let long = given.1 in omega arith))

pub returns-else-quick_give-clause-stays : goal.returns-else-quick_give-clause-stays
returns-else-quick_give-clause-stays g c = on_false c.quick_give.result c.if-quick_give.false c.quick_give.ensures.stays
