use Rattle.std.proofs.Common.{◌≡◌, ◌+◌, ◌≤◌, sym, subst, arith, Some}
use Rattle.std.proofs.lemmas.List.{map-append}
use Rattle.std.specs.Prelude.{slice_get}
use Rattle.grain_builder.specs.Assembled.{workings_of}
use Rattle.grain_builder.specs.Sound.{Workings}
use Rattle.grain_builder.specs.Unfinished.{Unfinished, spot, level_without_iterator}
use Rattle.grain_builder.proofs.Frames.{advance}
use Rattle.grain_builder.proofs.assembler.Assembler.advance.Goals as goal

pub invariant_of-self-2 : goal.invariant_of-self-2
invariant_of-self-2 c =
    let k : Workings = workings_of c.self.inside in
    let room : k.level.floor ≤ k.operands = subst (λ (w : Unfinished). w.level.floor ≤ w.operands) (sym c.self.view_is) c.requires.room in
    let one : k.level.least + 1 ≤ k.level.iterators = subst (λ (w : Unfinished). w.level.least + 1 ≤ w.level.iterators) (sym c.self.view_is) c.requires.one in
    let there : slice_get k.labels c.args.exit ≡ Some (spot k.operands (level_without_iterator k.level)) = subst (λ (w : Unfinished). slice_get w.labels c.args.exit ≡ Some (spot w.operands (level_without_iterator w.level))) (sym c.self.view_is) c.requires.there in
    rw (c.in_ok-push.ensures.items, map-append) (advance k c.self.invariant c.args.exit c.args.counter_slot room one there (omega arith))
