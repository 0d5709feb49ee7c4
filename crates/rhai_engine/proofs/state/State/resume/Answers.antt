use Rattle.std.proofs.Common.{sym, ap, subst}
use Rattle.grain.specs.Verified.{Verified}
use Rattle.rhai_engine.specs.Runs.{Continues, stage_chunks, session}
use Rattle.rhai_engine.specs.Session.{Reports, Session}
use Rattle.rhai_engine.proofs.Reporting.{reports}
use Rattle.rhai_engine.proofs.state.State.resume.Goals as goal

pub invariant_of-self : goal.invariant_of-self
invariant_of-self c =
    let d = c.self.inside.bounds.calls in
    let continues = subst (λ (v : Verified). Continues v.program d c.in-Ready.chunk c.resumed-stage.result.0 c.resumed-stage.result.1.event) c.deref.ensures c.resumed-stage.ensures.continues in
    c.continued.ensures.held c.self.inside.prepared.value.program d continues.held c.self.invariant.waiting

pub returns-in-Ready-clause-reports : goal.returns-in-Ready-clause-reports
returns-in-Ready-clause-reports c =
    let p = c.self.inside.prepared.value.program in
    let d = c.self.inside.bounds.calls in
    let n = c.self.inside.bounds.runs in
    let event = c.resumed-stage.result.1.event in
    let continues = subst (λ (v : Verified). Continues v.program d c.in-Ready.chunk c.resumed-stage.result.0 event) c.deref.ensures c.resumed-stage.ensures.continues in
    let was = ap stage_chunks (sym c.in-Ready.ensures.value) in
    let all = reports p d n c.in-Ready.chunk c.self.inside.last c.resumed-stage.result.0 c.continued.result c.self.inside.outer.items c.continued.new.outer.items event was continues c.continued.ensures.runs c.continued.ensures.keeps in
    subst (λ (s : Session). Reports s (session p d n c.continued.result c.continued.new.outer.items) event) c.self.view_is all
