use Rattle.std.proofs.Common.{ap, arith}
use Rattle.grain_lines.specs.Fields.{chunk_by}
use Rattle.grain_lines.proofs.FieldLaws.{split_never, too_few, too_many, three}
use Rattle.grain_lines.proofs.fields.three_parts.Goals as goal

pub returns-in_err-entry-clause-none : goal.returns-in_err-entry-clause-none
returns-in_err-entry-clause-none c = let h = ap chunk_by (split_never c.args.word.now c.in_err-entry.ensures.none) in grind (arith, h)

pub returns-in_err-end-clause-none : goal.returns-in_err-end-clause-none
returns-in_err-end-clause-none c =
    let h = too_few c.args.word.now _ _ c.in_ok-entry.ensures.parts c.in_ok-entry.ensures.first c.in_err-end.ensures.none in grind (arith, h)

pub returns-in-Some-clause-none : goal.returns-in-Some-clause-none
returns-in-Some-clause-none c = let last = c.in-Some.ensures in
    too_many c.args.word.now _ _ _ _ _ _ c.in_ok-entry.ensures.parts c.in_ok-entry.ensures.first c.in_ok-end.ensures.parts c.in_ok-end.ensures.first last.parts last.first

pub returns-in-None-clause-some : goal.returns-in-None-clause-some
returns-in-None-clause-some c =
    three c.args.word.now _ _ _ _ c.in_ok-entry.ensures.parts c.in_ok-entry.ensures.first c.in_ok-end.ensures.parts c.in_ok-end.ensures.first c.in-None.ensures.none
