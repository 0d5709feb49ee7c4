use Rattle.std.proofs.Common.{◌≡◌, ℕ, ◌+◌, ◌≤◌, length, sym, subst, Some, rules, ◌∙◌}
use Rattle.std.specs.Prelude.{slice_get}
use Rattle.std.specs.List.{Contains}
use Rattle.std.proofs.lemmas.List.{length-map, map-append}
use Rattle.grain_builder.specs.Assembled.{workings_of, targets_of}
use Rattle.grain_builder.specs.Sound.{Workings}
use Rattle.grain_builder.specs.Unfinished.{Unfinished, spot}
use Rattle.grain_builder.proofs.Marks.{one_table}
use Rattle.grain_builder.proofs.Frames.{switched_new}
use Rattle.grain_builder.proofs.assembler.Assembler.switch.Goals as goal

pub invariant_of-self-in_err-push-2 : goal.invariant_of-self-in_err-push-2
invariant_of-self-in_err-push-2 c =
    let same : c.push-2.new.self.items ≡ c.self.inside.ops.items = search rules in
    rw (same, c.in_ok-push.ensures.items, map-append) (one_table (workings_of c.self.inside) c.self.invariant (targets_of c.args.targets))

pub invariant_of-self-2 : goal.invariant_of-self-2
invariant_of-self-2 c =
    let k : Workings = workings_of c.self.inside in
    let room : k.level.floor + 1 ≤ k.operands = subst (λ (w : Unfinished). w.level.floor + 1 ≤ w.operands) (sym c.self.view_is) c.requires.room in
    let there : (l : ℕ) → Contains (targets_of c.args.targets) l → slice_get k.labels l ≡ Some (spot k.operands k.level) = subst (λ (w : Unfinished). (l : ℕ) → Contains (targets_of c.args.targets) l → slice_get w.labels l ≡ Some (spot w.operands w.level)) (sym c.self.view_is) c.requires.there in
    let many = length-map c.self.inside.tables.items targets_of in
    let first : c.from-index.result ≡ length c.self.inside.tables.items = search rules in
    rw (c.in_ok-push-2.ensures.items, c.in_ok-push.ensures.items, map-append, map-append) (switched_new k c.self.invariant c.from-index.result (targets_of c.args.targets) (first ∙ sym many) room there)
