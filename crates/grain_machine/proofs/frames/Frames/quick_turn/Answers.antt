use Rattle.std.proofs.Common.{refl}
use Rattle.grain_machine.specs.Standing.{stack_of}
use Rattle.grain_machine.proofs.QuickMoves.{turns_by_move, under_way_still}
use Rattle.grain_machine.proofs.frames.Frames.quick_turn.Goals as goal

pub returns-clause-standing : goal.returns-clause-standing
returns-clause-standing g c =
    let f = c.args.self.now in
    record {
      program = refl;
      ready = under_way_still f.body f.frame c.quick_step.new.frame c.quick_step.result c.requires.ready c.quick_step.ensures.moves c.quick_step.ensures.stays;
      waiting = c.requires.waiting;
    }

pub returns-clause-goes : goal.returns-clause-goes
returns-clause-goes g c =
    let f = c.args.self.now in
    turns_by_move f.body f.frame c.quick_step.new.frame (stack_of f).callers c.quick_step.result c.quick_step.ensures.moves
