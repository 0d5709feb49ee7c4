use Rattle.std.proofs.Common.{◌≡◌, length, subst}
use Rattle.grain.specs.Program.{setting_of}
use Rattle.grain_rules.specs.Accepted.{AreIndexed}
use Rattle.grain_rules.specs.Facts.{Facts, facts_with}
use Rattle.grain_rules.specs.Setting.{with_caps}
use Rattle.rhai_compile.proofs.building.check_indices.Goals as goal

pub returns-in-Ok : goal.returns-in-Ok
returns-in-Ok c =
    let p = c.args.program.now in
    let h = c.pools.ensures in
    let pools = c.pools.result in
    let same : facts_with pools.consts pools.names.now pools.tokens pools.assign_ops pools.residuals pools.chains.now pools.switches.now
    ≡ facts_with (length p.consts) p.names (length p.tokens) (length p.assign_ops) p.residuals p.chains p.switches =
    λ i. facts_with (h.consts i) (h.names i) (h.tokens i) (h.assign_ops i) (h.residuals i) (h.chains i) (h.switches i) in
    subst (λ (f : Facts). AreIndexed (with_caps p.caps.0 f) p.code) same (subst (AreIndexed (with_caps p.caps.0 _)) c.code.ensures (c.in-Ok.ensures.ok p.caps.0))
