use Rattle.std.proofs.Common.{◌≡◌, ℕ, ap, bit_or, subst, sym, ◌∙◌}
use Rattle.std.specs.Prelude.{Some, option_map}
use Rattle.grain_base.specs.declared.caps.Caps.{Caps}
use Rattle.grain_rules.specs.Accepted.{AllowsConst}
use Rattle.grain_rules.specs.Capabilities.{Allows}
use Rattle.grain_rules.specs.ConstCaps.{const_caps}
use Rattle.grain_needs.proofs.CapabilityBits.{allows_itself, more_allows, others_allow}
use Rattle.grain_needs.proofs.capabilities.joined.Goals as goal

pub returns-in-Some-clause-kept : goal.returns-in-Some-clause-kept
returns-in-Some-clause-kept c = λ needed h.
    let both : c.union.result.0 ≡ bit_or c.args.all.0 c.in-Some.needed.0 = c.union.ensures tt in
    subst (λ (x : ℕ). Allows x needed) (sym both) (more_allows c.args.all.0 c.in-Some.needed.0 needed h)

pub returns-in-Some-clause-suffice : goal.returns-in-Some-clause-suffice
returns-in-Some-clause-suffice c =
    let both : c.union.result.0 ≡ bit_or c.args.all.0 c.in-Some.needed.0 = c.union.ensures tt in
    let needs : Some c.in-Some.needed.0 ≡ const_caps c.args.value.now = sym (ap (option_map (λ (x : Caps). x.0)) c.in-Some.is) ∙ c.constant_caps.ensures in
    subst (AllowsConst c.union.result.0) needs (subst (λ (x : ℕ). Allows x c.in-Some.needed.0) (sym both) (others_allow c.args.all.0 c.in-Some.needed.0 c.in-Some.needed.0 (allows_itself c.in-Some.needed.0)))
