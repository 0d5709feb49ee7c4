use Rattle.std.proofs.Common.{ℕ, List, ap, subst, ◌∙◌}
use Rattle.std.specs.List.{All, Contains}
use Rattle.std.proofs.lemmas.List.Elements.{All-weaker}
use Rattle.grain_rules.specs.EffectView.{flow_in}
use Rattle.grain_rules.specs.FlowFields.{targets_for}
use Rattle.grain_explain.specs.Scenes.{seen}
use Rattle.grain_explain.specs.Ways.{arrival_stop}
use Rattle.grain_explain.specs.Pursuits.{Keeps, sent_to_next, sent_to}
use Rattle.grain_explain.proofs.EdgeMatches.{on_ok}
use Rattle.grain_explain.proofs.PursuitSteps.{pursued_left}
use Rattle.grain_explain.proofs.Sceneries.{if_none}
use Rattle.grain_explain.proofs.Refused.{target_flaw}
use Rattle.grain_explain.proofs.scene.Scene.send.Goals as goal

pub refuse-requires-clause-here : goal.refuse-requires-clause-here
refuse-requires-clause-here g c = (c.args.departure.now.place, c.requires.left.held)

pub refuse-requires-clause-flaw : goal.refuse-requires-clause-flaw
refuse-requires-clause-flaw g c =
    let s = seen g.P.Read.facts g.P.Read.leads c.args.self.now in
    let left = c.requires.left in
    let come = (left.come c.args.departure.now.place c.args.departure.now.here.now left.held).come in
    let (t, named, misses) = c.in-Err.ensures.err in
    let there = c.deref.ensures.value ∙ (c.in_ok-targets.ensures ∙ ap (targets_for s.code.switches) left.does.flow) in
    target_flaw s (arrival_stop c.args.departure.now.visited.bases.now c.args.departure.now.here.now) t c.in-Err.error c.requires.ready.framed come.reached
    (record { op = left.op; passes = left.passes; names = subst (λ (ts : List ℕ). Contains ts t) there named }) misses

pub returns-then-falls-clause-keeps : goal.returns-then-falls-clause-keeps
returns-then-falls-clause-keeps g c = on_ok c.fall.result (λ (keeps : Keeps c.push_all.new.work.items c.fall.new.work.items) a h. keeps a (c.in_ok-push_all.ensures.keeps a h)) c.fall.ensures.keeps

pub returns-then-falls-clause-pursued : goal.returns-then-falls-clause-pursued
returns-then-falls-clause-pursued g c =
    let s = seen g.P.Read.facts g.P.Read.leads c.args.self.now in
    let d = c.args.departure.now in
    let mid = c.push_all.new.work.items in
    let new = c.fall.new.work.items in
    let targets = targets_for s.code.switches (flow_in d.effect.now) in
    let there = c.deref-2.ensures.value ∙ c.in_ok-targets.ensures in
    let sent = subst (All (λ (t : ℕ). Contains mid (sent_to d t))) there c.in_ok-push_all.ensures.sent in
    if_none c.fall.result (λ (keeps : Keeps mid new) (here : Contains new (sent_to_next d)).
    pursued_left s d c.requires.left new (All-weaker (λ (t : ℕ). Contains mid (sent_to d t)) (λ (t : ℕ). Contains new (sent_to d t)) (λ t. keeps (sent_to d t)) targets sent) (λ _. here)) c.fall.ensures.keeps c.fall.ensures.sent

pub returns-clause-pursued : goal.returns-clause-pursued
returns-clause-pursued g c =
    let s = seen g.P.Read.facts g.P.Read.leads c.args.self.now in
    let d = c.args.departure.now in
    let mid = c.push_all.new.work.items in
    let there = c.deref-2.ensures.value ∙ c.in_ok-targets.ensures in
    let sent = subst (All (λ (t : ℕ). Contains mid (sent_to d t))) there c.in_ok-push_all.ensures.sent in
    pursued_left s d c.requires.left mid sent (λ goes. absurd (let no = c.if-falls.false in let known = c.falls.ensures in cc))
