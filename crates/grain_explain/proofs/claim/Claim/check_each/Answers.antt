use Rattle.std.proofs.Common.{refl}
use Rattle.std.proofs.lemmas.Result.{err_from_is_err_and}
use Rattle.grain_explain.proofs.EdgeMatches.{all_done, next_of, none_done, one_done}
use Rattle.grain_explain.proofs.claim.Claim.check_each.Goals as goal

pub loop-target-init : goal.loop-target-init
loop-target-init g c = none_done refl

pub loop-target-preserved : goal.loop-target-preserved
loop-target-preserved g c = one_done c.in-Some.ensures.some c.loop-target.invariant c.in_ok-check_target.ensures.ok

pub returns-in_err-check_target-clause-err : goal.returns-in_err-check_target-clause-err
returns-in_err-check_target-clause-err g c =
    let p = err_from_is_err_and c.from_residual.result c.from_residual.ensures.1 in
    rw (p.1, p.2) (_, next_of c.in-Some.ensures.some c.loop-target.invariant, c.in_err-check_target.ensures.err)

pub returns-clause-ok : goal.returns-clause-ok
returns-clause-ok g c = all_done c.in_default.ensures.none c.loop-target.invariant
