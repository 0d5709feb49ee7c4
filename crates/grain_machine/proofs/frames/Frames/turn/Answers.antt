use Rattle.std.proofs.Common.{refl, subst, ap}
use Rattle.grain_machine.specs.Calls.{Turns}
use Rattle.grain_machine.specs.State.{FrameState, state_of}
use Rattle.grain_machine.specs.Standing.{DoesTurn, stack_of}
use Rattle.grain_machine.proofs.Pausing.{lent_ready}
use Rattle.grain_machine.proofs.Lending.{frame_of, lent_turns, stack_fault}
use Rattle.grain_machine.proofs.Moves.{ready_again}
use Rattle.grain_machine.proofs.Stopping.{handlers_of, sounds_here}
use Rattle.grain_machine.proofs.frames.Frames.turn.Goals as goal

pub returns-in-Ok-Moved-clause-standing : goal.returns-in-Ok-Moved-clause-standing
returns-in-Ok-Moved-clause-standing g c =
    let f = c.args.self.now in
    let goes = subst (DoesTurn f.body f.frame c.step.new.frame) c.in-Ok-Moved.field-0-is c.in-Ok-Moved.ensures.goes in
    record { program = refl; ready = ready_again f.body (state_of f.frame) (state_of c.step.new.frame) c.requires.ready goes.goes; waiting = c.requires.waiting }

pub returns-in-Ok-clause-goes : goal.returns-in-Ok-clause-goes
returns-in-Ok-clause-goes g c =
    let f = c.args.self.now in
    let callers = (stack_of f).callers in
    let t = stack_of c.call.new.self in
    let does = subst (DoesTurn f.body f.frame c.step.new.frame) c.in-Ok-Calls.field-0-is c.in-Ok-Calls.ensures.goes in
    let calling = does.0 in
    let lent = does.1 in
    let before = λ (y : FrameState g.row.V.Denot g.row.I.Denot). Turns f.body.program c.args.depth (record { top = frame_of f.body y; callers = callers }) t in
    lent_turns f.body f.frame calling.op c.in-Ok-Calls.next c.in-Ok-Calls.takes calling.at calling.gives lent.0 lent.1 t callers c.args.depth (subst before lent.2 c.in-Ok.ensures.goes)

pub returns-in-Err-clause-ends : goal.returns-in-Err-clause-ends
returns-in-Err-clause-ends g c =
    let f = c.args.self.now in
    let does = subst (DoesTurn f.body f.frame c.step.new.frame) c.in-Ok-Calls.field-0-is c.in-Ok-Calls.ensures.goes in
    let calling = does.0 in
    let sounds = sounds_here f.body (state_of f.frame) calling.op c.in-Ok-Calls.next calling.at calling.gives.sounds in
    stack_fault (frame_of f.body c.step.new.frame) (frame_of f.body f.frame) (stack_of f).callers (ap handlers_of does.1.2) f.body.program c.in-Err.outcome sounds c.in-Err.ensures.ends

pub returns-in-Ok-Waits-clause-standing : goal.returns-in-Ok-Waits-clause-standing
returns-in-Ok-Waits-clause-standing g c =
    let f = c.args.self.now in
    let does = subst (DoesTurn f.body f.frame c.step.new.frame) c.in-Ok-Waits.field-0-is c.in-Ok-Waits.ensures.goes in
    record { program = refl; ready = lent_ready f.body f.frame c.step.new.frame c.in-Ok-Waits.takes c.in-Ok-Waits.next does.0 does.1 c.requires.ready; waiting = c.requires.waiting }

pub returns-in-Ok-Waits-clause-goes : goal.returns-in-Ok-Waits-clause-goes
returns-in-Ok-Waits-clause-goes g c =
    let f = c.args.self.now in
    let does = subst (DoesTurn f.body f.frame c.step.new.frame) c.in-Ok-Waits.field-0-is c.in-Ok-Waits.ensures.goes in
    record { asking = does.0; lent = does.1; body = refl; callers = refl }
