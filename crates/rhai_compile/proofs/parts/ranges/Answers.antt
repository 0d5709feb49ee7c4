use Rattle.std.proofs.Common.{subst, sym, List}
use Rattle.std.specs.List.{All, Contains}
use Rattle.std.proofs.lemmas.List.Elements.{All-push}
use Rattle.grain_pools.specs.declared.switch.SwitchRange.{SwitchRange}
use Rattle.grain_builder.specs.Assembled.{targets_of}
use Rattle.rhai_compile.proofs.parts.ranges.Goals as goal

pub loop-place-preserved : goal.loop-place-preserved
loop-place-preserved c =
    let leads : SwitchRange → Type 0 = λ (r : SwitchRange). Contains (targets_of c.args.targets.now) r.target in
    subst (λ (rs : List SwitchRange). All leads rs) (sym c.in_ok-push.ensures.items) (All-push leads c.loop-place.ranges.items _ c.loop-place.invariant c.target_at.ensures)
