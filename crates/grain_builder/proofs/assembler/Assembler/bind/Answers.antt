use Rattle.std.proofs.Common.{◌≡◌, ◌+◌, Some, length, rules, sym, ap, subst, ◌∙◌}
use Rattle.std.specs.Prelude.{slice_get}
use Rattle.std.proofs.lemmas.List.{length-map}
use Rattle.grain_builder.specs.Assembled.{op_in, workings_of}
use Rattle.grain_builder.specs.Sound.{Workings}
use Rattle.grain_builder.specs.Unfinished.{Unfinished, spot}
use Rattle.grain_builder.proofs.LabelLists.{bound_in, outer_there, same_outers, same_spots}
use Rattle.grain_builder.proofs.assembler.Assembler.bind.Goals as goal

pub invariant_of-self : goal.invariant_of-self
invariant_of-self c =
    let k : Workings = workings_of c.self.inside in
    let here : slice_get k.labels c.args.label ≡ Some (spot k.operands k.level) = subst (λ (w : Unfinished). slice_get w.labels c.args.label ≡ Some (spot w.operands w.level)) (sym c.self.view_is) c.requires.here in
    let inner : k.pending ≡ c.args.label + 1 = subst (λ (w : Unfinished). w.pending ≡ c.args.label + 1) (sym c.self.view_is) c.requires.innermost in
    let many : c.in-Ok.at ≡ length k.ops = (let h : c.in-Ok.at ≡ length c.self.inside.ops.items = search rules in h) ∙ sym (length-map c.self.inside.ops.items op_in) in
    bound_in k c.self.inside.labels.items c.args.label c.in-Ok.at c.index.result.now c.index_mut.result.now c.self.invariant here inner c.index.ensures c.index_mut.ensures.value many c.if-at-lt-NOWHERE.true

pub returns-clause-pending : goal.returns-clause-pending
returns-clause-pending c =
    let k : Workings = workings_of c.self.inside in
    let here : slice_get k.labels c.args.label ≡ Some (spot k.operands k.level) = subst (λ (w : Unfinished). slice_get w.labels c.args.label ≡ Some (spot w.operands w.level)) (sym c.self.view_is) c.requires.here in
    subst (λ (w : Unfinished). slice_get w.outers c.args.label ≡ Some c.index.result.now.outer) c.self.view_is
    (outer_there c.self.inside.labels.items c.args.label c.index.result.now (spot k.operands k.level) here c.index.ensures)

pub returns-clause-labels : goal.returns-clause-labels
returns-clause-labels c = same_spots c.self.inside.labels.items c.args.label c.in-Ok.at c.index_mut.result.now c.index_mut.ensures.value ∙ ap (λ (w : Unfinished). w.labels) c.self.view_is

pub returns-clause-outers : goal.returns-clause-outers
returns-clause-outers c = same_outers c.self.inside.labels.items c.args.label c.in-Ok.at c.index_mut.result.now c.index_mut.ensures.value ∙ ap (λ (w : Unfinished). w.outers) c.self.view_is
