use Rattle.std.proofs.Common.{arith, subst, ◌+◌, ◌≤◌, sym}
use Rattle.grain_rules.specs.Layout.{IsBoundary}
use Rattle.grain_explain.proofs.Boundaries.{boundary_within, ends_there, next_above, next_boundary}
use Rattle.grain_explain.proofs.frame.boundary_from.Goals as goal

pub loop-here-preserved : goal.loop-here-preserved
loop-here-preserved c =
    let (op, stands, wide) = c.in-Some.ensures.found in
    let fits = c.in-Some.ensures.fits in
    let here = c.loop-here.here in
    let now = c.loop-here.invariant.boundary in
    record {
      boundary = subst (λ n. IsBoundary c.args.code.now (here + n)) (sym wide) (next_boundary c.args.code.now here op now stands (omega arith));
      below = λ b l. subst (λ n. here + n ≤ c.args.at) (sym wide) (next_above c.args.code.now here c.args.at op now b stands (omega arith) (omega arith));
    }

pub returns-in_default-clause-found : goal.returns-in_default-clause-found
returns-in_default-clause-found c b l =
    let e = ends_there c.args.code.now c.loop-here.here c.loop-here.invariant.boundary c.in_default.ensures.none in
    let k = boundary_within c.args.code.now c.args.at b in
    let m = c.loop-here.invariant.below b l in
    omega arith

pub returns-clause-found : goal.returns-clause-found
returns-clause-found c b l = let m = c.loop-here.invariant.below b l in omega arith
