use Rattle.std.proofs.Common.{◌≡◌, ◌-◌, ℕ, subst, ap, ◌∙◌}
use Rattle.grain_verify.specs.Arrivals.{view}
use Rattle.grain_rules.specs.Counts.{Base, last_base}
use Rattle.grain_rules.specs.EffectView.{flow}
use Rattle.grain_rules.specs.Sinking.{ReachesUpTo, untouched}
use Rattle.grain_verify.specs.declared.state.State.{State}
use Rattle.grain_rules.proofs.IndexedCode.{tag_of}
use Rattle.grain_verify.proofs.RefusalsAreFlaws.{ok_so}
use Rattle.grain_verify.proofs.AboveLastBase.{untouched_known}
use Rattle.grain_verify.proofs.sinking.check_stays.Goals as goal

pub returns-clause-stays : goal.returns-clause-stays
returns-clause-stays c s op is known same =
    let i = c.args.instruction.now in
    let does = c.args.effect in
    let counts = view c.args.lists.now c.args.here.state in
    let rest = c.in_ok-iterators.field-0.iterators in
    let after : ℕ → Base = λ n. record { operands = counts.operands - does.takes; iterators = n } in
    let taken = ap (λ (x : State). x.iterators) c.in_ok-iterators.ensures.ok.1 ∙ ap (λ n. counts.iterators - n) c.iterators_needed-needed.ensures in
    let left_is : after rest ≡ untouched s op counts = ap after taken ∙ untouched_known s op counts does.needs does.takes does.gives (flow does.flow does.target) known same in
    ok_so c.check_sinking.result (λ stays loud. subst (ReachesUpTo (last_base counts.bases)) left_is (subst (λ (b : Base). ReachesUpTo b (after rest)) c.last_base.ensures (stays loud)))
    (c.check_sinking.ensures.stays op (tag_of i.tag i.fields.now op is))
