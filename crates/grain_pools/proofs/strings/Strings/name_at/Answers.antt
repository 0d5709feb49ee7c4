use Rattle.std.proofs.Common.{rules, ◌≡◌, ◌+◌, ℕ, List, None, Some, slice_get, ap, sym, ◌∙◌}
use Rattle.grain_pools.proofs.Tables.{span_of, text_of, past_of, past_before}
use Rattle.grain_pools.proofs.strings.Strings.name_at.Goals as goal

pub returns-in_err-from-clause-name : goal.returns-in_err-from-clause-name
returns-in_err-from-clause-name c =
    let none : slice_get c.self.inside.starts.items c.args.at ≡ None = search rules in
    rw (c.from_residual.ensures, ← c.self.view_is) (sym (past_before c.self.inside.blob.items c.self.inside.starts.items c.self.invariant c.args.at none))

pub returns-in_err-to-clause-name : goal.returns-in_err-to-clause-name
returns-in_err-to-clause-name c =
    let none : slice_get c.self.inside.starts.items (c.args.at + 1) ≡ None = search rules in
    rw (c.from_residual-in_err-to.ensures, ← c.self.view_is) (sym (past_of c.self.inside.blob.items c.self.inside.starts.items c.self.invariant c.args.at none))

pub text_in-requires : goal.text_in-requires
text_in-requires c =
    let from : slice_get c.self.inside.starts.items c.args.at ≡ Some c.in_ok-from.from = search rules in
    let to : slice_get c.self.inside.starts.items (c.args.at + 1) ≡ Some c.in_ok-to.to = search rules in
    let s = span_of c.self.inside.blob.items c.self.inside.starts.items c.self.invariant c.args.at c.in_ok-from.from c.in_ok-to.to from to in
    let u = text_of c.self.inside.blob.items c.self.inside.starts.items c.self.invariant c.args.at c.in_ok-from.from c.in_ok-to.to s in
    rw c.deref-3.ensures.value (record { in_order = s.in_order; inside = s.inside; text = u })

pub returns-clause-name : goal.returns-clause-name
returns-clause-name c =
    let from : slice_get c.self.inside.starts.items c.args.at ≡ Some c.in_ok-from.from = search rules in
    let to : slice_get c.self.inside.starts.items (c.args.at + 1) ≡ Some c.in_ok-to.to = search rules in
    let s = span_of c.self.inside.blob.items c.self.inside.starts.items c.self.invariant c.args.at c.in_ok-from.from c.in_ok-to.to from to in
    ap (λ (name : List ℕ). Some name) c.text_in.ensures ∙ rw (c.deref-3.ensures.value, ← c.self.view_is) (sym s.name)
