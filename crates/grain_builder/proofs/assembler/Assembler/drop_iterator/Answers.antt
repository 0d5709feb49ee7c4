use Rattle.std.proofs.Common.{◌+◌, ◌≤◌, sym, subst}
use Rattle.std.proofs.lemmas.List.{map-append}
use Rattle.grain_builder.specs.Assembled.{workings_of}
use Rattle.grain_builder.specs.Sound.{Workings}
use Rattle.grain_builder.specs.Unfinished.{Unfinished}
use Rattle.grain_builder.proofs.Frames.{drop_iterator}
use Rattle.grain_builder.proofs.assembler.Assembler.drop_iterator.Goals as goal

pub invariant_of-self-2 : goal.invariant_of-self-2
invariant_of-self-2 c =
    let k : Workings = workings_of c.self.inside in
    let one : k.level.least + 1 ≤ k.level.iterators = subst (λ (w : Unfinished). w.level.least + 1 ≤ w.level.iterators) (sym c.self.view_is) c.requires in
    rw (c.in_ok-push.ensures.items, map-append, c.in_ok-level.ensures) (drop_iterator k c.self.invariant one)
