use Rattle.std.proofs.Common.{List, ℕ, Option, ◌++◌, ap, map, sym, ◌∙◌}
use Rattle.std.specs.List.{flat_map}
use Rattle.std.specs.Option.{option_or}
use Rattle.std.proofs.lemmas.Result.{err_from_is_err_and}
use Rattle.grain_rules.specs.FirstOut.{alone, first_out}
use Rattle.grain_rules.specs.Indices.{test_of}
use Rattle.grain_flat.specs.RowFacts.{facts_by_rows, root_by_row, step_by_row, tail_by_row}
use Rattle.grain_flat.proofs.RowTests.{mentions_append}
use Rattle.grain_flat.proofs.row_reads.Rows.check_inside.Goals as goal

pub returns-in_err-check_front : goal.returns-in_err-check_front
returns-in_err-check_front c =
    let s = alone (facts_by_rows c.args.self.now) in
    let row = c.args.row.now in
    let front = root_by_row row ++ flat_map (step_by_row row.operands) c.args.steps.now in
    let tail = tail_by_row row in
    let p = err_from_is_err_and c.from_residual.result c.from_residual.ensures.1 in
    rw (p.1, p.2) (ap (λ (o : Option (List ℕ × ℕ)). option_or o (first_out (map (test_of s) tail))) c.in_err-check_front.ensures ∙ sym (mentions_append s front tail))

pub returns : goal.returns
returns c =
    let s = alone (facts_by_rows c.args.self.now) in
    let row = c.args.row.now in
    let front = root_by_row row ++ flat_map (step_by_row row.operands) c.args.steps.now in
    let tail = tail_by_row row in
    c.check_tail.ensures ∙ (ap (λ (o : Option (List ℕ × ℕ)). option_or o (first_out (map (test_of s) tail))) c.in_ok-check_front.ensures ∙ sym (mentions_append s front tail))
