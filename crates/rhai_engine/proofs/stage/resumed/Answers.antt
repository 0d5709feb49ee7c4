use Rattle.std.proofs.Common.{◌+◌, ◌<◌, refl, sym, subst, arith}
use Rattle.grain.specs.Program.{Program}
use Rattle.grain_machine.specs.Resting.{IsParked, parked_stack}
use Rattle.grain_machine.specs.Resuming.{AwaitsValue, HasEnded, HasReached, IsAwaiting}
use Rattle.rhai_values.specs.declared.walk.Walk.{Walk}
use Rattle.rhai_engine.proofs.Reporting.{can_end}
use Rattle.rhai_engine.proofs.stage.resumed.Goals as goal

pub event_of_end-event-requires : goal.event_of_end-event-requires
event_of_end-event-requires c =
    let q = c.main.result.program in
    let d = c.args.limits.depth in
    let chunk = c.args.chunk in
    let turns = c.requires.turns in
    let reached : HasReached q d chunk turns (parked_stack c.args.run) = subst (λ (p : Program). HasReached p d chunk turns (parked_stack c.args.run)) (sym c.main.ensures.program) c.requires.reached in
    let goes = c.in-Ended.ensures.goes chunk turns reached in
    can_end q d chunk (turns + c.in-Ended.turns) c.in-Ended.ending.at c.in-Ended.ending.outcome goes.1

pub returns-in-Paused-clause-continues : goal.returns-in-Paused-clause-continues
returns-in-Paused-clause-continues c =
    let q = c.main.result.program in
    let d = c.args.limits.depth in
    let chunk = c.args.chunk in
    let turns = c.requires.turns in
    let run = c.in-Paused.run' in
    let reached : HasReached q d chunk turns (parked_stack c.args.run) = subst (λ (p : Program). HasReached p d chunk turns (parked_stack c.args.run)) (sym c.main.ensures.program) c.requires.reached in
    let now = subst (λ (p : Program). HasReached p d chunk (turns + c.args.limits.fuel) (parked_stack run)) c.main.ensures.program (c.in-Paused.ensures.goes chunk turns reached) in
    record {
      held = record { parked = subst (λ (p : Program). IsParked p run) c.main.ensures.program c.in-Paused.ensures.resumable; turns = turns + c.args.limits.fuel; reached = now };
      follows = (refl, refl);
    }

pub returns-in-Waits-clause-continues : goal.returns-in-Waits-clause-continues
returns-in-Waits-clause-continues c =
    let q = c.main.result.program in
    let d = c.args.limits.depth in
    let chunk = c.args.chunk in
    let turns = c.requires.turns in
    let run = c.in-Waits.run' in
    let reached : HasReached q d chunk turns (parked_stack c.args.run) = subst (λ (p : Program). HasReached p d chunk turns (parked_stack c.args.run)) (sym c.main.ensures.program) c.requires.reached in
    let goes = c.in-Waits.ensures.goes chunk turns reached in
    record {
      held = record {
        awaiting = subst (λ (p : Program). IsAwaiting p run) c.main.ensures.program c.in-Waits.ensures.resumable;
        turns = turns + c.in-Waits.turns;
        awaits = subst (λ (p : Program). AwaitsValue p d chunk (turns + c.in-Waits.turns) run) c.main.ensures.program goes.1;
      };
      follows = (refl, refl);
    }

pub returns-in-Waits-clause-turns : goal.returns-in-Waits-clause-turns
returns-in-Waits-clause-turns c =
    let d = c.args.limits.depth in
    let chunk = c.args.chunk in
    let turns = c.requires.turns in
    let reached : HasReached c.main.result.program d chunk turns (parked_stack c.args.run) = subst (λ (p : Program). HasReached p d chunk turns (parked_stack c.args.run)) (sym c.main.ensures.program) c.requires.reached in
    let below : c.in-Waits.turns < c.args.limits.fuel = (c.in-Waits.ensures.goes chunk turns reached).0 in
    omega arith

pub returns-in-Ended-clause-continues : goal.returns-in-Ended-clause-continues
returns-in-Ended-clause-continues c =
    let q = c.main.result.program in
    let d = c.args.limits.depth in
    let chunk = c.args.chunk in
    let turns = c.requires.turns in
    let ending = c.in-Ended.ending in
    let reached : HasReached q d chunk turns (parked_stack c.args.run) = subst (λ (p : Program). HasReached p d chunk turns (parked_stack c.args.run)) (sym c.main.ensures.program) c.requires.reached in
    let goes = c.in-Ended.ensures.goes chunk turns reached in
    record {
      held = tt;
      follows = record {
        turns = turns + c.in-Ended.turns;
        at = ending.at;
        outcome = ending.outcome;
        ended = subst (λ (p : Program). HasEnded Walk p d chunk (turns + c.in-Ended.turns) ending.at ending.outcome) c.main.ensures.program goes.1;
        is = c.event_of_end-event.ensures;
      };
    }

pub returns-in-Ended-clause-turns : goal.returns-in-Ended-clause-turns
returns-in-Ended-clause-turns c =
    let d = c.args.limits.depth in
    let chunk = c.args.chunk in
    let turns = c.requires.turns in
    let reached : HasReached c.main.result.program d chunk turns (parked_stack c.args.run) = subst (λ (p : Program). HasReached p d chunk turns (parked_stack c.args.run)) (sym c.main.ensures.program) c.requires.reached in
    let below : c.in-Ended.turns < c.args.limits.fuel = (c.in-Ended.ensures.goes chunk turns reached).0 in
    omega arith
