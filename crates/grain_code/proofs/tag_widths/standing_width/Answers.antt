use Rattle.std.proofs.Common.{get_or, ◌∙◌, arith}
use Rattle.grain_code.proofs.Widths.{row_is, standing_fits, standing_wide}
use Rattle.grain_code.proofs.tag_widths.standing_width.Goals as goal

pub returns-clause-width : goal.returns-clause-width
returns-clause-width c op h =
    row_is (get_or c.args.code.now c.args.at 0) c.tag_row.result.now (let byte = c.type_inv.code c.args.at in omega arith) c.tag_row.ensures ∙ standing_wide c.args.code.now c.args.at op h

pub returns-clause-fits : goal.returns-clause-fits
returns-clause-fits c =
    let op = c.requires.0 in
    let h = c.requires.1 in
    let wide = row_is (get_or c.args.code.now c.args.at 0) c.tag_row.result.now (let byte = c.type_inv.code c.args.at in omega arith) c.tag_row.ensures ∙ standing_wide c.args.code.now c.args.at op h in
    let fits = standing_fits c.args.code.now c.args.at op h in
    (omega (arith, fits.0, wide), omega (arith, fits.2, wide))
