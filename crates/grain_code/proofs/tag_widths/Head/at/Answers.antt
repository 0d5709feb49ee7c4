use Rattle.std.proofs.Common.{get_or, ap, ◌∙◌, sym, arith}
use Rattle.grain_code.proofs.Rows.{tag_width}
use Rattle.grain_code.proofs.Widths.{row_is, untaken_width, width_is}
use Rattle.grain_code.proofs.tag_widths.Head.at.Goals as goal

pub returns-clause-width : goal.returns-clause-width
returns-clause-width c op is =
    let tag = get_or c.args.code.now c.args.at 0 in
    row_is tag c.tag_row.result.now (let byte = c.type_inv.code c.args.at in omega arith) c.tag_row.ensures ∙ ap tag_width (sym is) ∙ width_is op

pub returns-clause-untaken : goal.returns-clause-untaken
returns-clause-untaken c none =
    let tag = get_or c.args.code.now c.args.at 0 in
    row_is tag c.tag_row.result.now (let byte = c.type_inv.code c.args.at in omega arith) c.tag_row.ensures ∙ untaken_width tag none
