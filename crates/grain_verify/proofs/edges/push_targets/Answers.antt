use Rattle.std.proofs.Common.{refl, subst}
use Rattle.std.proofs.lemmas.Result.{err_from_is_err_and}
use Rattle.grain_verify.proofs.PushedTargets.{PushesUpTo, all_pushed, next_refused, none_pushed, one_pushed}
use Rattle.grain_verify.proofs.edges.push_targets.Goals as goal

pub loop-target-init : goal.loop-target-init
loop-target-init g c = none_pushed _ _ _ _ _ _ refl

pub loop-target-preserved : goal.loop-target-preserved
loop-target-preserved g c = one_pushed _ _ _ _ _ _ _ _ _ _ c.in-Some.ensures.some c.loop-target.invariant c.in_ok-push_target.ensures.pushed

pub returns-in_err-push_target-clause-err : goal.returns-in_err-push_target-clause-err
returns-in_err-push_target-clause-err g c =
    let p = err_from_is_err_and c.from_residual.result c.from_residual.ensures.1 in
    rw (p.1, p.2) (next_refused _ _ _ _ _ _ _ _ _ _ _ c.in-Some.ensures.some c.loop-target.invariant c.in_err-push_target.ensures.err)

pub returns-clause-pushed : goal.returns-clause-pushed
returns-clause-pushed g c =
    all_pushed _ _ _ _ _ _ (subst (λ left. PushesUpTo c.args.starts.now.starts c.args.chunk.now c.args.after (g.T.Targets.left c.args.targets) left c.args.work.now.items c.loop-target.work.items)
    c.in_default.ensures.none c.loop-target.invariant)
