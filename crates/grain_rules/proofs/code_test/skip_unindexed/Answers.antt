use Rattle.std.proofs.Common.{◌≡◌, ◌+◌, ◌≤◌, ap, length, subst, sym, take, ◌∙◌, arith}
use Rattle.grain_rules.specs.Accepted.{AreIndexed}
use Rattle.grain_rules.proofs.IndexedCode.{indexed_more}
use Rattle.grain_rules.proofs.code_test.skip_unindexed.Goals as goal

pub loop-width-preserved : goal.loop-width-preserved
loop-width-preserved g c =
    let s = c.loop-width in
    let code = c.args.code.now in
    let at = g.F.Front.end_of s.front in
    let width = c.in-Some.width in
    let (op, stands, wide, indexed) = rw c.end.ensures at c.in-Some.ensures.found in
    let fits = rw c.end.ensures at c.in-Some.ensures.fits in
    let here = c.end-in-Some.ensures in
    let next : g.F.Front.end_of c.push.new.self ≡ at + width = c.push.ensures.end ∙ ap (λ n. n + width) here in
    let further = s.invariant.further in
    record {
      inside = subst (λ n. n ≤ length code) (sym next) fits.1;
      further = omega (arith, next, further);
      room = c.push.ensures.room code s.invariant.room;
      is = c.push.ensures.is code op s.invariant.inside stands (omega (arith, here, wide)) s.invariant.is;
      indexed = λ setting front. subst (λ n. AreIndexed setting (take n code)) (sym next) (indexed_more setting code at width op (s.invariant.indexed setting front) stands (indexed setting) wide);
    }
