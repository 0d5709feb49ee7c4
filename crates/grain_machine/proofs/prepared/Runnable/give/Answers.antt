use Rattle.std.proofs.Common.{◌+◌, ◌-◌, ◌≤◌, length, subst, arith}
use Rattle.grain_machine.specs.Reply.{IsGivenHere}
use Rattle.grain_machine.specs.State.{Replaces, state_of}
use Rattle.grain_machine.proofs.Moves.{plain_room}
use Rattle.grain_machine.proofs.Passing.{plain_back, plain_went}
use Rattle.grain_machine.proofs.prepared.Runnable.give.Goals as goal

pub give-requires-clause-room : goal.give-requires-clause-room
give-requires-clause-room g c =
    let r = c.args.self.now in
    let s = c.args.frame.now in
    let h : length s.machine.operands - c.args.takes + 1 ≤ s.room = plain_room r (state_of s) c.args.op.now c.args.next c.args.takes c.args.takes 1 c.requires.at c.requires.plain in
    omega arith

pub returns-in-Ok-Value-clause-goes : goal.returns-in-Ok-Value-clause-goes
returns-in-Ok-Value-clause-goes g c =
    let r = c.args.self.now in
    let s = c.args.frame.now in
    let given : Replaces c.args.takes 1 s c.give.new.self =
    subst (IsGivenHere c.request-request.result.program.now c.args.takes s c.give.new.self) c.in-Ok-Value.field-0-is c.in-Ok-Value.ensures.ok in
    rw (c.go.ensures, given.2)
    (plain_went r s c.args.op.now c.args.next c.requires.at c.args.takes c.args.takes 1 c.requires.plain (omega arith) given.0 (let long = given.1 in omega arith))

pub returns-in-Ok-clause-goes : goal.returns-in-Ok-clause-goes
returns-in-Ok-clause-goes g c =
    let r = c.args.self.now in
    let s = c.args.frame.now in
    plain_back r s c.args.op.now c.args.next c.requires.at c.give.new.self c.raise.new.frame c.args.takes c.args.takes 1 c.requires.plain c.in-Err.ensures.err
    c.in-Ok.ensures.lands c.raise.ensures.room
