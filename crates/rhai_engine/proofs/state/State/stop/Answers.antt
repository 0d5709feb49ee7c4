use Rattle.std.proofs.Common.{sym, subst, ◌∙◌}
use Rattle.rhai_engine.specs.Runs.{session}
use Rattle.rhai_engine.specs.Session.{IsStopped, Session}
use Rattle.rhai_engine.proofs.Reporting.{stopped_runs}
use Rattle.rhai_engine.proofs.state.State.stop.Goals as goal

pub invariant_of-self : goal.invariant_of-self
invariant_of-self c =
    c.continued.ensures.held c.self.inside.prepared.value.program c.self.inside.bounds.calls tt c.self.invariant.waiting

pub returns-clause-ended : goal.returns-clause-ended
returns-clause-ended c =
    let p = c.self.inside.prepared.value.program in
    let d = c.self.inside.bounds.calls in
    let n = c.self.inside.bounds.runs in
    let left = sym (stopped_runs c.self.inside.last c.self.inside.outer.items c.self.invariant.alone) in
    subst (λ (s : Session). IsStopped s (session p d n c.continued.result c.continued.new.outer.items)) c.self.view_is
    (record { runs = c.continued.ensures.runs ∙ left; waits = c.continued.ensures.keeps })
