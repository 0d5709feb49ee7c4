use Rattle.std.proofs.Common.{inl, inr, refl}
use Rattle.std.proofs.lemmas.Result.{on_ok_weaker}
use Rattle.grain_machine.specs.Standing.{stack_of}
use Rattle.grain_machine.specs.State.{state_of}
use Rattle.grain_machine.proofs.Lending.{faults_beyond}
use Rattle.grain_machine.proofs.Moves.{ready_again}
use Rattle.grain_machine.proofs.Passing.{whole_back}
use Rattle.grain_machine.proofs.Stopping.{sounds_here}
use Rattle.grain_machine.proofs.frames.Frames.raise.Goals as goal

pub returns-in-Ok-clause-standing : goal.returns-in-Ok-clause-standing
returns-in-Ok-clause-standing g c =
    let f = c.args.self.now in
    let at = c.requires.calling in
    let goes = whole_back f.body f.frame at.op c.args.next at.at f.frame c.catch.new.self at.sounds refl c.in-Some.ensures.caught c.catch.ensures.room in
    record { program = refl; ready = ready_again f.body (state_of f.frame) (state_of c.catch.new.self) c.requires.standing.ready goes.goes; waiting = c.requires.standing.waiting }

pub returns-in-Ok-clause-goes : goal.returns-in-Ok-clause-goes
returns-in-Ok-clause-goes g c =
    let f = c.args.self.now in
    let at = c.requires.calling in
    let goes = whole_back f.body f.frame at.op c.args.next at.at f.frame c.catch.new.self at.sounds refl c.in-Some.ensures.caught c.catch.ensures.room in
    inl (record { goes = record { chunk = refl; moves = goes.goes.0; passes = goes.passes }; callers = refl })

pub returns-in-None-clause-goes : goal.returns-in-None-clause-goes
returns-in-None-clause-goes g c =
    let f = c.args.self.now in
    let at = c.requires.calling in
    on_ok_weaker c.unwind.result
    (λ caught. inr (record { sounds = sounds_here f.body (state_of f.frame) at.op c.args.next at.at at.sounds; uncaught = c.in-None.ensures.caught; caught = caught }))
    c.unwind.ensures.caught

pub returns-in-None-clause-ends : goal.returns-in-None-clause-ends
returns-in-None-clause-ends g c =
    let f = c.args.self.now in
    faults_beyond (stack_of f).top (stack_of f).callers c.unwind.result c.in-None.ensures.caught c.unwind.ensures.ends
