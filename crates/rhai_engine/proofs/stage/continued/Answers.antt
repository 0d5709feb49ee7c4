use Rattle.std.specs.Prelude.{Some}
use Rattle.std.proofs.lemmas.List.Elements.{All-pop}
use Rattle.rhai_engine.specs.Runs.{IsAskingRun}
use Rattle.rhai_engine.proofs.stage.continued.Goals as goal

pub returns-in-Some-clause-held : goal.returns-in-Some-clause-held
returns-in-Some-clause-held c program depth held waiting =
    let both = All-pop (IsAskingRun program depth) c.args.outer.now.items c.pop.new.self.items (Some c.in-Some.calling) c.in-Some.ensures.items waiting in
    record { held = both.1; waiting = both.0; alone = tt }
