use Rattle.std.proofs.Common.{◌+◌, refl, sym, subst}
use Rattle.grain.specs.Program.{Program}
use Rattle.grain_machine.specs.Resting.{IsParked, parked_stack}
use Rattle.grain_machine.specs.Resuming.{AwaitsValue, HasEnded, HasReached}
use Rattle.rhai_values.specs.declared.walk.Walk.{Walk}
use Rattle.rhai_engine.proofs.Reporting.{can_end}
use Rattle.rhai_engine.proofs.stage.failed.Goals as goal

pub event_of_end-requires : goal.event_of_end-requires
event_of_end-requires c =
    let calling = c.requires.calling in
    let q = c.main.result.program in
    let chunk = c.args.calling.chunk in
    let awaits : AwaitsValue q c.requires.depth chunk calling.turns c.args.calling.run = subst (λ (p : Program). AwaitsValue p c.requires.depth chunk calling.turns c.args.calling.run) (sym c.main.ensures.program) calling.awaits in
    can_end q c.requires.depth chunk calling.turns _ c.in-Err.ending.outcome (c.in-Err.ensures.ends c.requires.depth chunk calling.turns awaits)

pub returns-in-Err : goal.returns-in-Err
returns-in-Err c depth calling =
    let q = c.main.result.program in
    let chunk = c.args.calling.chunk in
    let awaits : AwaitsValue q depth chunk calling.turns c.args.calling.run = subst (λ (p : Program). AwaitsValue p depth chunk calling.turns c.args.calling.run) (sym c.main.ensures.program) calling.awaits in
    let ended = subst (λ (p : Program). HasEnded Walk p depth chunk calling.turns c.in-Err.ending.at c.in-Err.ending.outcome) c.main.ensures.program (c.in-Err.ensures.ends depth chunk calling.turns awaits) in
    record {
      held = tt;
      follows = record { turns = calling.turns; at = c.in-Err.ending.at; outcome = c.in-Err.ending.outcome; ended = ended; is = c.event_of_end.ensures };
    }

pub returns-in-Ok : goal.returns-in-Ok
returns-in-Ok c depth calling =
    let q = c.main.result.program in
    let chunk = c.args.calling.chunk in
    let run = c.in-Ok.run' in
    let awaits : AwaitsValue q depth chunk calling.turns c.args.calling.run = subst (λ (p : Program). AwaitsValue p depth chunk calling.turns c.args.calling.run) (sym c.main.ensures.program) calling.awaits in
    record {
      held = record {
        parked = subst (λ (p : Program). IsParked p run) c.main.ensures.program c.in-Ok.ensures.parked;
        turns = calling.turns + 1;
        reached = subst (λ (p : Program). HasReached p depth chunk (calling.turns + 1) (parked_stack run)) c.main.ensures.program (c.in-Ok.ensures.goes depth chunk calling.turns awaits);
      };
      follows = (refl, refl);
    }
