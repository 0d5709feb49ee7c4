use Rattle.std.proofs.lemmas.List.Elements.{Contains-get_or}
use Rattle.std.proofs.lemmas.Result.{err_from_is_err_and}
use Rattle.grain_explain.proofs.scene.Scene.check_targets.Goals as goal

pub returns-in_err-check_target-clause-err : goal.returns-in_err-check_target-clause-err
returns-in_err-check_target-clause-err g c =
    let p = err_from_is_err_and c.from_residual.result c.from_residual.ensures.1 in
    rw (p.1, p.2) (_, Contains-get_or c.args.targets.now c.loop-target.target-index _ c.loop-target-test.true, c.in_err-check_target.ensures.err)
