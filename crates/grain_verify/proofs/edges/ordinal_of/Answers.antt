use Rattle.std.proofs.Common.{arith, refl, sym, ◌∙◌}
use Rattle.std.proofs.lemmas.Option.{none-some}
use Rattle.grain_rules.proofs.ListedStarts.{contains_place, placed_contains}
use Rattle.grain_verify.proofs.edges.ordinal_of.Goals as goal

pub returns-in-Some-clause-ok : goal.returns-in-Some-clause-ok
returns-in-Some-clause-ok c = record {
  entry = let e = c.entry.ensures in let l = c.if-target-entry.false in omega arith;
  end = let e = c.end.ensures in let l = c.if-target-end.false in omega arith;
  start = placed_contains c.args.starts.now.starts c.in-Some.ordinal c.args.target ((c.ordinal.ensures.place c.in-Some.ordinal).0 c.in-Some.is);
}

pub returns-in-None-clause-err : goal.returns-in-None-clause-err
returns-in-None-clause-err c = (
  refl,
  refl,
  let e = c.entry.ensures in let l = c.if-target-entry.false in omega arith,
  let e = c.end.ensures in let l = c.if-target-end.false in omega arith,
  λ h.
      let place = contains_place c.args.starts.now.starts c.args.target h in
      absurd (none-some place.0 (sym c.in-None.is ∙ (c.ordinal.ensures.place place.0).1 place.1)),
)
