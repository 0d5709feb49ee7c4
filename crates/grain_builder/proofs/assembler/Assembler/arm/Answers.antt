use Rattle.std.proofs.Common.{◌≡◌, ◌≤◌, sym, subst, Some}
use Rattle.std.proofs.lemmas.List.{map-append}
use Rattle.std.specs.Prelude.{slice_get}
use Rattle.grain_builder.specs.Assembled.{workings_of}
use Rattle.grain_builder.specs.Sound.{Workings}
use Rattle.grain_builder.specs.Unfinished.{Unfinished, spot, level_with_handler}
use Rattle.grain_builder.proofs.Frames.{arm}
use Rattle.grain_builder.proofs.assembler.Assembler.arm.Goals as goal

pub invariant_of-self-2 : goal.invariant_of-self-2
invariant_of-self-2 c =
    let k : Workings = workings_of c.self.inside in
    let room : k.level.floor ≤ k.operands = subst (λ (w : Unfinished). w.level.floor ≤ w.operands) (sym c.self.view_is) c.requires.room in
    let there : slice_get k.labels c.args.label ≡ Some (spot k.operands (level_with_handler k.operands k.level)) = subst (λ (w : Unfinished). slice_get w.labels c.args.label ≡ Some (spot w.operands (level_with_handler w.operands w.level))) (sym c.self.view_is) c.requires.there in
    rw (c.in_ok-push.ensures.items, map-append, c.in_ok-level.ensures) (arm k c.self.invariant c.args.label c.args.name room there)
