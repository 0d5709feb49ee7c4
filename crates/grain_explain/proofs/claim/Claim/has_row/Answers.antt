use Rattle.std.proofs.Common.{rules, sym, ◌∙◌}
use Rattle.std.proofs.lemmas.List.Sorted.{answers_always}
use Rattle.std.proofs.lemmas.Option.{none-some, slice_get-get_or}
use Rattle.grain_explain.specs.OnEdges.{counts_on}
use Rattle.grain_explain.specs.declared.row.Row.{Row}
use Rattle.grain_explain.proofs.BinarySearch.{row_found, row_missing}
use Rattle.grain_explain.proofs.NumberedRows.{row_of}
use Rattle.grain_explain.proofs.claim.Claim.has_row.Goals as goal

pub returns-in-Ok : goal.returns-in-Ok
returns-in-Ok g c =
    let by_key = c.in-Ok.ensures.position (λ (r : Row). r.at) (answers_always _ _ _ (λ f a r g called. search rules)) in
    let rows = c.args.self.now.rows.now in
    let bases = c.args.self.now.bases.now in
    let row = row_of rows c.in-Ok.place in
    let is = slice_get-get_or rows c.in-Ok.place _ c.in-Ok.ensures.bound in
    row_found rows c.requires.laid.ascending c.args.at bases c.in-Ok.place row (counts_on bases c.args.edge.now) c.is_at.result is (by_key _) c.is_at.ensures

pub returns-in-Err : goal.returns-in-Err
returns-in-Err g c =
    let by_key = c.in-Err.ensures.position (λ (r : Row). r.at) (answers_always _ _ _ (λ f a r g called. search rules)) in
    let bases = c.args.self.now.bases.now in
    let none = row_missing c.args.self.now.rows.now c.requires.laid.ascending c.args.at bases c.in-Err.field-0 by_key in
    (λ t. absurd (cc), λ e. absurd (none-some (counts_on bases c.args.edge.now) (sym none ∙ e)))
