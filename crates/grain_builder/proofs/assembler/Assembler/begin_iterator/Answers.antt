use Rattle.std.proofs.Common.{◌+◌, ◌≤◌, sym, subst}
use Rattle.std.proofs.lemmas.List.{map-append}
use Rattle.grain_builder.specs.Assembled.{workings_of}
use Rattle.grain_builder.specs.Sound.{Workings}
use Rattle.grain_builder.specs.Unfinished.{Unfinished}
use Rattle.grain_builder.proofs.Frames.{begin_iterator}
use Rattle.grain_builder.proofs.assembler.Assembler.begin_iterator.Goals as goal

pub invariant_of-self-2 : goal.invariant_of-self-2
invariant_of-self-2 c =
    let k : Workings = workings_of c.self.inside in
    let room : k.level.floor + 1 ≤ k.operands = subst (λ (w : Unfinished). w.level.floor + 1 ≤ w.operands) (sym c.self.view_is) c.requires in
    rw (c.in_ok-push.ensures.items, map-append, c.in_ok-level.ensures) (begin_iterator k c.self.invariant room)
