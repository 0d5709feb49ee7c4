use Rattle.std.proofs.Common.{rules, ◌≡◌, List, None, Some, slice_get, ap, refl, sym, ◌∙◌, arith}
use Rattle.std.proofs.lemmas.Option.{slice_get_read}
use Rattle.grain_flat.specs.RowFacts.{chain_by_rows}
use Rattle.grain_flat.specs.declared.records.CStep.{CStep}
use Rattle.grain_flat.proofs.RowEntries.{chain_begun, chain_past, chain_there, steps_there}
use Rattle.grain_flat.proofs.row_reads.Rows.chain.Goals as goal

pub returns-in_err-row : goal.returns-in_err-row
returns-in_err-row c =
    let p = c.self.inside.pools in
    let none : slice_get p.chains.now c.args.index ≡ None = search rules in
    rw (c.from_residual.ensures, ← c.self.view_is) (sym (chain_past p.chains.now p.steps.now c.args.index none))

pub index-from-requires : goal.index-from-requires
index-from-requires c =
    let p = c.self.inside.pools in
    let there : slice_get p.chains.now c.args.index ≡ Some c.in_ok-row.row.now = search rules in
    let begun = chain_begun p c.self.inside.tables.steps.items c.self.inside.tables.arms.items c.self.invariant c.args.index c.in_ok-row.row.now there in
    omega (arith, begun)

pub part-requires : goal.part-requires
part-requires c =
    let p = c.self.inside.pools in
    let there : slice_get p.chains.now c.args.index ≡ Some c.in_ok-row.row.now = search rules in
    let begun = chain_begun p c.self.inside.tables.steps.items c.self.inside.tables.arms.items c.self.invariant c.args.index c.in_ok-row.row.now there in
    let at = slice_get_read c.self.inside.tables.steps.items _ c.args.index c.index-from.result.now refl begun c.index-from.ensures in
    (steps_there p c.self.inside.tables.steps.items c.self.inside.tables.arms.items c.self.invariant c.args.index c.in_ok-row.row.now c.index-from.result.now there at).within

pub returns : goal.returns
returns c =
    let p = c.self.inside.pools in
    let there : slice_get p.chains.now c.args.index ≡ Some c.in_ok-row.row.now = search rules in
    let begun = chain_begun p c.self.inside.tables.steps.items c.self.inside.tables.arms.items c.self.invariant c.args.index c.in_ok-row.row.now there in
    let at = slice_get_read c.self.inside.tables.steps.items _ c.args.index c.index-from.result.now refl begun c.index-from.ensures in
    let part = steps_there p c.self.inside.tables.steps.items c.self.inside.tables.arms.items c.self.invariant c.args.index c.in_ok-row.row.now c.index-from.result.now there at in
    ap (λ (own : List CStep). Some (chain_by_rows c.in_ok-row.row.now own)) c.part.ensures ∙ rw (← c.self.view_is) (sym (chain_there p.chains.now p.steps.now _ c.args.index c.in_ok-row.row.now there part.part_is))
