use Rattle.std.proofs.Common.{subst}
use Rattle.std.proofs.lemmas.List.Elements.{All-push}
use Rattle.rhai_engine.specs.Runs.{IsAskingRun, IsStageOf}
use Rattle.rhai_engine.proofs.stage.begun.Goals as goal

pub returns-in-Asking-clause-waiting : goal.returns-in-Asking-clause-waiting
returns-in-Asking-clause-waiting c program depth held waiting =
    let calling = subst (IsStageOf program depth) c.in-Asking.is held in
    rw c.push_reserved.ensures.items (All-push (IsAskingRun program depth) c.args.outer.now.items c.in-Asking.calling waiting calling)
