use Rattle.std.proofs.Common.{arith, refl}
use Rattle.grain_base.proofs.KnownSites.{ascends_all, ascends_without, ascends_with, ascends_end, falls}
use Rattle.grain_base.proofs.pos.is_ascending.Goals as goal

pub loop-address-init : goal.loop-address-init
loop-address-init c = ascends_all c.args.sites.now

pub loop-address-preserved-then-site-eq0 : goal.loop-address-preserved-then-site-eq0
loop-address-preserved-then-site-eq0 c = ascends_without _ _ _ _ c.loop-address.invariant c.loop-address-test.true c.if-site-eq0.true

pub loop-address-preserved : goal.loop-address-preserved
loop-address-preserved c =
    rw c.from-address.ensures (ascends_with _ _ _ _ c.loop-address.invariant c.loop-address-test.true c.if-site-eq0.false (omega arith))

pub returns-then-address-least : goal.returns-then-address-least
returns-then-address-least c =
    (λ rises. absurd cc, λ rises. absurd (falls _ _ _ _ c.loop-address.invariant c.loop-address-test.true c.if-site-eq0.false (omega arith) rises))

pub returns : goal.returns
returns c = (λ rises. ascends_end _ _ _ c.loop-address.invariant (omega arith), λ rises. refl)
