use Rattle.std.proofs.Common.{◌≡◌, ◌+◌, ◌-◌, ◌≤◌, sym, refl, subst, arith, Some}
use Rattle.std.proofs.lemmas.List.{map-append}
use Rattle.std.specs.Prelude.{slice_get}
use Rattle.grain_builder.specs.Assembled.{workings_of}
use Rattle.grain_builder.specs.Sound.{Workings}
use Rattle.grain_builder.specs.Unfinished.{Unfinished, spot}
use Rattle.grain_code.specs.declared.op.Op.TheVariants as ops
use Rattle.grain_builder.proofs.Plain.{put_jump}
use Rattle.grain_builder.proofs.assembler.Assembler.jump.Goals as goal

pub invariant_of-self-2 : goal.invariant_of-self-2
invariant_of-self-2 c =
    let k : Workings = workings_of c.self.inside in
    let room : k.level.floor + 0 ≤ k.operands = let r : k.level.floor ≤ k.operands = subst (λ (w : Unfinished). w.level.floor ≤ w.operands) (sym c.self.view_is) c.requires.room in omega arith in
    let few : c.self.inside.operands ≤ 65535 = c.self.invariant.room in
    let zero : k.operands - 0 + 0 ≡ k.operands = omega arith in
    let there : slice_get k.labels c.args.label ≡ Some (spot k.operands k.level) = subst (λ (w : Unfinished). slice_get w.labels c.args.label ≡ Some (spot w.operands w.level)) (sym c.self.view_is) c.requires.there in
    rw (c.in_ok-push.ensures.items, map-append)
    (put_jump k c.self.invariant (ops.Jump c.args.label) 0 0 (record { needs_some = λ s h. omega arith; takes_some = λ s h. refl; gives_some = λ s h. refl }) c.args.label refl room (subst (λ n. slice_get k.labels c.args.label ≡ Some (spot n k.level)) (sym zero) there) c.args.left (omega arith))
