use Rattle.std.proofs.Common.{◌≡◌, sym, ap, ◌∙◌, take, drop}
use Rattle.grain_code.specs.InstructionTable.{width_of}
use Rattle.grain_code.proofs.Instructions.{tag_and_operands, instr_along}
use Rattle.grain_code.proofs.instruction.Instruction.at.Goals as goal

pub returns-clause-found : goal.returns-clause-found
returns-clause-found c =
    let width = c.in_ok-width.ensures in
    let there = width.found in
    let bytes = tag_and_operands c.args.code.now c.args.at c.in_ok-width.width width.fits.0 width.fits.1 in
    let same : take (width_of there.0) (drop c.args.at c.args.code.now) ≡ take c.in_ok-width.width (drop c.args.at c.args.code.now) = ap (λ n. take n (drop c.args.at c.args.code.now)) (sym there.2) in
    (there.0, there.1, instr_along _ _ there.0 (same ∙ sym bytes) there.1)
