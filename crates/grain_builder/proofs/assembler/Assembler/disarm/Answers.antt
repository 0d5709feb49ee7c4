use Rattle.std.proofs.Common.{◌≡◌, ◌≤◌, length, sym, subst}
use Rattle.std.proofs.lemmas.List.{map-append}
use Rattle.grain_rules.specs.Counts.{without_last}
use Rattle.grain_builder.specs.Assembled.{workings_of}
use Rattle.grain_builder.specs.Sound.{IsBased, Workings}
use Rattle.grain_builder.specs.Unfinished.{Level, Unfinished}
use Rattle.grain_builder.proofs.Frames.{disarm}
use Rattle.grain_builder.proofs.assembler.Assembler.disarm.Goals as goal

pub invariant_of-self-2 : goal.invariant_of-self-2
invariant_of-self-2 c =
    let k : Workings = workings_of c.self.inside in
    let armed : 1 ≤ length k.level.bases = subst (λ (w : Unfinished). 1 ≤ length w.level.bases) (sym c.self.view_is) c.requires.armed in
    let bases : c.args.outer.bases ≡ without_last k.level.bases = subst (λ (w : Unfinished). c.args.outer.bases ≡ without_last w.level.bases) (sym c.self.view_is) c.requires.bases in
    let iterators : c.args.outer.iterators ≡ k.level.iterators = subst (λ (w : Unfinished). c.args.outer.iterators ≡ w.level.iterators) (sym c.self.view_is) c.requires.iterators in
    let home : c.args.outer.home ≡ k.level.home = subst (λ (w : Unfinished). c.args.outer.home ≡ w.level.home) (sym c.self.view_is) c.requires.home in
    let based : IsBased c.args.outer = subst (λ (l : Level). IsBased l) c.outer.view_is c.outer.invariant in
    rw (c.in_ok-push.ensures.items, map-append) (disarm k c.self.invariant c.args.outer armed bases iterators home based)
