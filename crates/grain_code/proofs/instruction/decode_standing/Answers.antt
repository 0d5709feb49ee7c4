use Rattle.std.proofs.Common.{◌+◌, ap, subst}
use Rattle.grain_code.specs.Split.{StandsAt}
use Rattle.grain_code.specs.declared.op.Op.{Op}
use Rattle.grain_code.proofs.Instructions.{standing_bytes}
use Rattle.grain_code.proofs.FieldBytes.{same_instruction}
use Rattle.grain_code.proofs.instruction.decode_standing.Goals as goal

pub unreachable-requires : goal.unreachable-requires
unreachable-requires c =
    let op = c.requires.0 in
    let width = c.standing_width-width.ensures in
    let there = standing_bytes c.args.code.now c.args.at c.standing_width-width.result op width.fits.0 width.fits.1 (width.width op c.requires.1) c.requires.1 in
    c.in_default.ensures.none op there

pub returns-clause-stands : goal.returns-clause-stands
returns-clause-stands c =
    let op = c.requires.0 in
    let width = c.standing_width-width.ensures in
    let there = standing_bytes c.args.code.now c.args.at c.standing_width-width.result op width.fits.0 width.fits.1 (width.width op c.requires.1) c.requires.1 in
    subst (λ (o : Op). StandsAt c.args.code.now c.args.at o) (same_instruction _ op c.in-Some.op there c.in-Some.ensures.found) c.requires.1

pub returns-clause-behind : goal.returns-clause-behind
returns-clause-behind c = ap (λ n. c.args.at + n) (c.standing_width-width.ensures.width c.in-Some.op (returns-clause-stands c))
