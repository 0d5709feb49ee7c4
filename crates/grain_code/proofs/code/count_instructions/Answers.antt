use Rattle.std.proofs.Common.{[], ◌∷◌, ◌++◌, take, length, ap, sym, refl, subst, ◌∙◌, ◌+◌, arith, Ok}
use Rattle.std.proofs.lemmas.List.{length-append}
use Rattle.grain_code.specs.Split.{AreInstructions, starts_from}
use Rattle.grain_code.proofs.Splits.{one_more, one_split, split_at_end, no_front_inside, length-starts_from}
use Rattle.grain_code.proofs.code.count_instructions.Goals as goal

pub returns-in_default-clause-counted : goal.returns-in_default-clause-counted
returns-in_default-clause-counted c =
    let front = c.loop-at.invariant.front in
    (omega arith, (starts_from 0 front.0, (front.0, front.1, refl), c.in_default.ensures.none))

pub returns-in_default-clause-whole : goal.returns-in_default-clause-whole
returns-in_default-clause-whole c starts split =
    let front = c.loop-at.invariant.front in
    absurd (no_front_inside c.args.code.now c.loop-at.at starts (omega arith) (starts_from 0 front.0, (front.0, front.1, refl), c.in_default.ensures.none) split)

pub loop-at-preserved : goal.loop-at-preserved
loop-at-preserved c =
    let front = c.loop-at.invariant.front in
    let found = c.in-Some.ensures.found in
    let fits = c.in-Some.ensures.fits in
    let more = one_more c.args.code.now c.loop-at.at front.0 found.0 front.1 found.1 in
    record {
      in_code = omega (arith, fits.1);
      few = omega (arith, fits.0);
      front = (front.0 ++ found.0 ∷ [], subst (λ n. AreInstructions (take (c.loop-at.at + n) c.args.code.now) (front.0 ++ found.0 ∷ [])) (sym found.2) more, omega (arith, length-append front.0 (found.0 ∷ [])));
    }

pub returns-clause-counted : goal.returns-clause-counted
returns-clause-counted c =
    let front = c.loop-at.invariant.front in
    (starts_from 0 front.0, split_at_end c.args.code.now c.loop-at.at front.0 (omega arith) front.1, length-starts_from 0 front.0 ∙ front.2)

pub returns-clause-whole : goal.returns-clause-whole
returns-clause-whole c starts split =
    let front = c.loop-at.invariant.front in
    let one = one_split c.args.code.now (starts_from 0 front.0) starts (split_at_end c.args.code.now c.loop-at.at front.0 (omega arith) front.1) split in
    ap Ok (sym front.2 ∙ sym (length-starts_from 0 front.0) ∙ ap length one)
