use Rattle.std.proofs.Common.{get_or, inl, inr, arith}
use Rattle.grain_code.proofs.FieldBytes.{IsBytes}
use Rattle.grain_code.proofs.Widths.{row_is, stands_at, none_at}
use Rattle.grain_code.proofs.tag_widths.width.Goals as goal
use Rattle.grain_code.proofs.tag_widths.width.Goals.{then-width-eq0-via-then-width-eq0, then-width-eq0-via-else-width-eq0+then-at-width}

pub returns-then-width-eq0-clause-none : goal.returns-then-width-eq0-clause-none
returns-then-width-eq0-clause-none c =
    let bytes : IsBytes c.args.code.now = λ i. let byte = c.type_inv.code i in omega arith in
    let wide = row_is (get_or c.args.code.now c.args.at 0) c.tag_row.result.now (bytes c.args.at) c.tag_row.ensures in
    none_at c.args.code.now c.args.at bytes (omega arith) (elim c.then-width-eq0.branch [
      | then-width-eq0-via-then-width-eq0 w ↦ inl (omega arith)
      | then-width-eq0-via-else-width-eq0+then-at-width w ↦ inr (omega arith)
    ])

pub returns-clause-found : goal.returns-clause-found
returns-clause-found c =
    let bytes : IsBytes c.args.code.now = λ i. let byte = c.type_inv.code i in omega arith in
    let wide = row_is (get_or c.args.code.now c.args.at 0) c.tag_row.result.now (bytes c.args.at) c.tag_row.ensures in
    stands_at c.args.code.now c.args.at _ bytes (omega arith) wide (omega arith) (omega arith)
