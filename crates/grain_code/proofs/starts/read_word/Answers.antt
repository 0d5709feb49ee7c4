use Rattle.std.proofs.Common.{◌≡◌, ◌/◌, [], ◌∷◌, ◌++◌, ◌+◌, length, take, sym, subst, arith}
use Rattle.std.proofs.Math.Nat.{div-add-mod}
use Rattle.grain_code.specs.Split.{AreInstructions, starts_from}
use Rattle.grain_code.proofs.Boundaries.{next_start}
use Rattle.grain_code.proofs.FilledWords.{filling_start}
use Rattle.grain_code.proofs.Splits.{one_more}
use Rattle.grain_code.proofs.starts.read_word.Goals as goal

pub loop-at-preserved : goal.loop-at-preserved
loop-at-preserved c =
    let s = c.loop-at in
    let code = c.args.code.now in
    let found = c.in-Some.ensures.found in
    let fits = c.in-Some.ensures.fits in
    record {
      in_code = fits.1;
      further = let f = s.invariant.further in omega arith;
      few = let f = s.invariant.few in omega (arith, fits.0);
      read = λ words begun limit before.
          let front = s.invariant.read words begun limit before in
          let ops = front.0 ++ found.0 ∷ [] in
          let are = subst (λ n. AreInstructions (take (s.at + n) code) ops) (sym found.2) (one_more code s.at front.0 found.0 front.1 found.1) in
          let here : length words ≡ s.at / 64 = let f = s.invariant.further in omega (arith, begun, limit, c.loop-at-test.true, div-add-mod s.at 64) in
          let filling = filling_start words c.args.before s.bits s.count s.at (s.at + c.in-Some.width) (starts_from 0 front.0) here (omega (arith, fits.0)) front.2 in
          (ops, are, rw (next_start code s.at front.0 found.0 s.invariant.in_code front.1) filling);
    }
