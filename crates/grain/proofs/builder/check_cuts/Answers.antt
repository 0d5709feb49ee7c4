use Rattle.std.proofs.Common.{map, refl, subst, sym}
use Rattle.std.proofs.lemmas.List.{get_or-map}
use Rattle.std.proofs.lemmas.List.Elements.{AllWithin-more}
use Rattle.grain.specs.Build.{span_of}
use Rattle.grain_rules.specs.ByIndex.{IsCut}
use Rattle.grain.proofs.builder.check_cuts.Goals as goal

pub loop-index-preserved : goal.loop-index-preserved
loop-index-preserved c =
    let n = c.args.count in
    let cuts = c.args.cuts.now in
    let i = c.loop-index.index in
    AllWithin-more (IsCut n) (map span_of cuts) 0 i c.loop-index.invariant (λ d. subst (IsCut n) (sym (get_or-map span_of cuts i _ d c.loop-index-test.true)) (c.if-not-lies_in.ensures.0 refl))
