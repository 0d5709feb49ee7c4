use Rattle.std.proofs.Common.{◌≡◌, ◌<◌, ℕ, List, ◌∙◌, ap, rules}
use Rattle.grain_code.specs.declared.field.Field.{Field}
use Rattle.grain_code.specs.InstructionTable.{form}
use Rattle.grain_code.proofs.Rows.{tag_width}
use Rattle.grain_code.proofs.Widths.{row_is, width_is}
use Rattle.grain_code.proofs.op_fields.width_of.Goals as goal

pub returns : goal.returns
returns c =
    let small : c.layout-tag.result.0 < 256 = search rules in
    let same : c.layout-tag.result.0 ≡ (form c.args.op.now).0 = ap (λ (p : ℕ × List Field). p.0) c.layout-tag.ensures in
    c.from.ensures ∙ row_is c.layout-tag.result.0 c.tag_row.result.now small c.tag_row.ensures ∙ ap tag_width same ∙ width_is c.args.op.now
