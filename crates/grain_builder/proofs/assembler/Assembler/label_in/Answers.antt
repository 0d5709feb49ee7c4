use Rattle.std.proofs.Common.{◌≡◌, [], ◌∷◌, ◌++◌, map, Some, length, rules, refl, ap, subst, ◌∙◌}
use Rattle.grain_builder.specs.Assembled.{workings_of, spot_at}
use Rattle.grain_builder.specs.Unfinished.{StaysIn, Unfinished}
use Rattle.grain_builder.specs.declared.assembler.Label.{Label}
use Rattle.grain_builder.proofs.LabelLists.{outer_of, pushed, pushed_here, pushed_keeps}
use Rattle.grain_builder.proofs.assembler.Assembler.label_in.Goals as goal

abbrev new : goal.After-self-1 → Label
new c = record { at = 4294967295; outer = c.self.inside.pending; operands = c.args.operands; level = c.args.level }

pub invariant_of-self-2 : goal.invariant_of-self-2
invariant_of-self-2 c =
    rw c.in_ok-push.ensures.items
    (pushed (workings_of c.self.inside) c.self.inside.labels.items _ c.in-Ok.label c.self.invariant refl refl (search rules))

pub returns-clause-here : goal.returns-clause-here
returns-clause-here c =
    let is : c.in-Ok.label ≡ length c.self.inside.labels.items = search rules in
    rw c.in_ok-push.ensures.items
    (pushed_here spot_at c.self.inside.labels.items (new c) c.in-Ok.label is)

pub returns-clause-outer : goal.returns-clause-outer
returns-clause-outer c =
    let is : c.in-Ok.label ≡ length c.self.inside.labels.items = search rules in
    rw c.in_ok-push.ensures.items
    (pushed_here outer_of c.self.inside.labels.items _ c.in-Ok.label is
    ∙ ap (λ (w : Unfinished). Some w.pending) c.self.view_is)

pub returns-clause-labels : goal.returns-clause-labels
returns-clause-labels c =
    rw c.in_ok-push.ensures.items
    (subst (λ (w : Unfinished). StaysIn w.labels (map spot_at (c.self.inside.labels.items ++ new c ∷ []))) c.self.view_is
    (pushed_keeps spot_at c.self.inside.labels.items (new c)))

pub returns-clause-outers : goal.returns-clause-outers
returns-clause-outers c =
    rw c.in_ok-push.ensures.items
    (subst (λ (w : Unfinished). StaysIn w.outers (map outer_of (c.self.inside.labels.items ++ new c ∷ []))) c.self.view_is
    (pushed_keeps outer_of c.self.inside.labels.items (new c)))
