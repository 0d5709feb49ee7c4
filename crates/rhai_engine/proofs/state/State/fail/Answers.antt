use Rattle.std.proofs.Common.{sym, ap, subst}
use Rattle.grain.specs.Verified.{Verified}
use Rattle.rhai_engine.specs.Runs.{Continues, IsAskingRun, IsStageOf, stage_chunks, session}
use Rattle.rhai_engine.specs.Session.{Reports, Session}
use Rattle.rhai_engine.proofs.Reporting.{reports}
use Rattle.rhai_engine.proofs.state.State.fail.Goals as goal

pub failed-stage-requires : goal.failed-stage-requires
failed-stage-requires c =
    let d = c.self.inside.bounds.calls in
    let calling = subst (IsStageOf c.self.inside.prepared.value.program d) (sym c.in-Asking.ensures.value) c.self.invariant.held in
    record { depth = d; calling = subst (λ (v : Verified). IsAskingRun v.program d c.in-Asking.calling) (sym c.deref.ensures) calling }

pub invariant_of-self : goal.invariant_of-self
invariant_of-self c =
    let d = c.self.inside.bounds.calls in
    let stage = c.failed-stage.result in
    let held = subst (IsStageOf c.self.inside.prepared.value.program d) (sym c.in-Asking.ensures.value) c.self.invariant.held in
    let calling = subst (λ (v : Verified). IsAskingRun v.program d c.in-Asking.calling) (sym c.deref.ensures) held in
    let continues = subst (λ (v : Verified). Continues v.program d c.in-Asking.calling.chunk stage.0 stage.1) c.deref.ensures (c.failed-stage.ensures d calling) in
    c.continued.ensures.held c.self.inside.prepared.value.program d continues.held c.self.invariant.waiting

pub returns-in-Asking-clause-reports : goal.returns-in-Asking-clause-reports
returns-in-Asking-clause-reports c =
    let p = c.self.inside.prepared.value.program in
    let d = c.self.inside.bounds.calls in
    let n = c.self.inside.bounds.runs in
    let stage = c.failed-stage.result in
    let held = subst (IsStageOf p d) (sym c.in-Asking.ensures.value) c.self.invariant.held in
    let calling = subst (λ (v : Verified). IsAskingRun v.program d c.in-Asking.calling) (sym c.deref.ensures) held in
    let continues = subst (λ (v : Verified). Continues v.program d c.in-Asking.calling.chunk stage.0 stage.1) c.deref.ensures (c.failed-stage.ensures d calling) in
    let was = ap stage_chunks (sym c.in-Asking.ensures.value) in
    let all = reports p d n c.in-Asking.calling.chunk c.self.inside.last stage.0 c.continued.result c.self.inside.outer.items c.continued.new.outer.items stage.1 was continues c.continued.ensures.runs c.continued.ensures.keeps in
    subst (λ (s : Session). Reports s (session p d n c.continued.result c.continued.new.outer.items) stage.1) c.self.view_is all
