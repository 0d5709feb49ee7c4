use Rattle.std.proofs.Common.{◌∷◌, subst, arith}
use Rattle.grain_code.specs.Split.{StandsAt}
use Rattle.grain_code.specs.declared.op.Op.{Op}
use Rattle.grain_code.proofs.Instructions.{instr_width}
use Rattle.grain_code.proofs.FieldBytes.{same_instruction}
use Rattle.grain_code.proofs.instruction.read.Goals as goal

pub returns-clause-found : goal.returns-clause-found
returns-clause-found c =
    let i = c.in_ok-instruction.instruction in
    let there = c.in_ok-instruction.ensures.found in
    let is = c.in_ok-op.ensures.found in
    let same = same_instruction (i.tag ∷ i.fields.now) there.0 c.in_ok-op.op there.2 is in
    (subst (λ (op : Op). StandsAt c.args.code.now c.args.at op) same there.1, let w = instr_width (i.tag ∷ i.fields.now) c.in_ok-op.op is in let e = c.width.ensures in omega arith)
