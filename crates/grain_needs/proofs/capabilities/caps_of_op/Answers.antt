use Rattle.std.proofs.Common.{ap, sym, ◌∙◌}
use Rattle.grain_rules.specs.EffectView.{asked_in}
use Rattle.grain_rules.specs.Facts.{Facts}
use Rattle.grain_rules.specs.Setting.{with_caps}
use Rattle.grain_needs.proofs.capabilities.caps_of_op.Goals as goal

pub returns : goal.returns
returns g c = λ s e.
    c.asked_beside.ensures s.caps ∙ ap (λ (f : Facts). asked_in (with_caps s.caps f) c.of.result.asks) (sym e) ∙ c.of.ensures.asks s
