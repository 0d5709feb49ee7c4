use Rattle.std.proofs.Common.{rules, ◌≡◌, ◌+◌, ℕ, List, None, Some, slice_get, ap, sym, ◌∙◌}
use Rattle.grain_pools.proofs.Tables.{past_before, past_of, span_of, table_of, text_of}
use Rattle.grain_flat.proofs.row_reads.Rows.name.Goals as goal

pub returns-in_err-from : goal.returns-in_err-from
returns-in_err-from c =
    let p = c.self.inside.pools in
    let none : slice_get p.starts.now c.args.index ≡ None = search rules in
    rw (c.from_residual.ensures, ← c.self.view_is) (sym (past_before p.names.now p.starts.now (table_of p.names.now p.starts.now c.self.invariant.flat.names) c.args.index none))

pub returns-in_err-to : goal.returns-in_err-to
returns-in_err-to c =
    let p = c.self.inside.pools in
    let none : slice_get p.starts.now (c.args.index + 1) ≡ None = search rules in
    rw (c.from_residual-in_err-to.ensures, ← c.self.view_is) (sym (past_of p.names.now p.starts.now (table_of p.names.now p.starts.now c.self.invariant.flat.names) c.args.index none))

pub text_in-requires : goal.text_in-requires
text_in-requires c =
    let p = c.self.inside.pools in
    let table = table_of p.names.now p.starts.now c.self.invariant.flat.names in
    let from : slice_get p.starts.now c.args.index ≡ Some c.in_ok-from.from = search rules in
    let to : slice_get p.starts.now (c.args.index + 1) ≡ Some c.in_ok-to.to = search rules in
    let s = span_of p.names.now p.starts.now table c.args.index c.in_ok-from.from c.in_ok-to.to from to in
    let u = text_of p.names.now p.starts.now table c.args.index c.in_ok-from.from c.in_ok-to.to s in
    record { in_order = s.in_order; inside = s.inside; text = u }

pub returns : goal.returns
returns c =
    let p = c.self.inside.pools in
    let table = table_of p.names.now p.starts.now c.self.invariant.flat.names in
    let from : slice_get p.starts.now c.args.index ≡ Some c.in_ok-from.from = search rules in
    let to : slice_get p.starts.now (c.args.index + 1) ≡ Some c.in_ok-to.to = search rules in
    let s = span_of p.names.now p.starts.now table c.args.index c.in_ok-from.from c.in_ok-to.to from to in
    ap (λ (name : List ℕ). Some name) c.text_in.ensures ∙ rw (← c.self.view_is) (sym s.name)
