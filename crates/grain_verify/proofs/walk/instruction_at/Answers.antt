use Rattle.std.proofs.Common.{◌≡◌, ◌+◌, ◌-◌, ◌≤◌, ◌∷◌, drop, length, take, sym, ap, ◌∙◌, arith}
use Rattle.grain_code.specs.InstructionTable.{width_of}
use Rattle.grain_code.proofs.Instructions.{instr_along, standing_tag, tag_and_operands}
use Rattle.grain_rules.proofs.Splits.{op_fits, width_pos}
use Rattle.grain_verify.proofs.walk.instruction_at.Goals as goal

pub returns-clause-found : goal.returns-clause-found
returns-clause-found c =
    let code = c.args.code.now in
    let at = c.args.at in
    let head = c.requires in
    let width = c.from.result in
    let wide : width ≡ width_of head.op = omega (arith, c.from.ensures, head.width) in
    let fits : at + width_of head.op ≤ length code = op_fits code at head.op (omega (arith, head.inside)) head.stands in
    let bytes = tag_and_operands code at width (omega (arith, wide, width_pos head.op)) (omega (arith, wide, fits)) in
    let tag = standing_tag code at head.op head.inside head.stands ∙ head.tag in
    let same =
    ap (λ n. take n (drop at code)) (sym wide)
    ∙ (sym bytes ∙ ap (λ t. t ∷ take (at + width - (at + 1)) (drop (at + 1) code)) tag) in
    (head.op, head.stands, instr_along _ _ head.op same head.stands)
