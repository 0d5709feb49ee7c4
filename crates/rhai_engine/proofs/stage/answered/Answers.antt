use Rattle.std.proofs.Common.{◌+◌, refl, sym, subst}
use Rattle.grain.specs.Program.{Program}
use Rattle.grain_machine.specs.Resting.{IsParked, parked_stack}
use Rattle.grain_machine.specs.Resuming.{AwaitsValue, HasReached}
use Rattle.rhai_engine.proofs.stage.answered.Goals as goal

pub returns-in-Ok : goal.returns-in-Ok
returns-in-Ok c depth calling =
    let q = c.main.result.program in
    let chunk = c.args.calling.chunk in
    let run = c.answer-rest.result in
    let awaits : AwaitsValue q depth chunk calling.turns c.args.calling.run = subst (λ (p : Program). AwaitsValue p depth chunk calling.turns c.args.calling.run) (sym c.main.ensures.program) calling.awaits in
    record {
      held = record {
        parked = subst (λ (p : Program). IsParked p run) c.main.ensures.program c.answer-rest.ensures.parked;
        turns = calling.turns + 1;
        reached = subst (λ (p : Program). HasReached p depth chunk (calling.turns + 1) (parked_stack run)) c.main.ensures.program (c.answer-rest.ensures.goes depth chunk calling.turns awaits);
      };
      follows = (refl, refl);
    }
