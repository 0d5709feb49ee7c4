use Rattle.std.proofs.lemmas.Result.{err_from_is_err_and}
use Rattle.grain_pools.specs.LookedUp.{steps_sought, tail_sought}
use Rattle.grain_pools.proofs.FirstMissing.{earlier_named, later_decide}
use Rattle.grain_pools.proofs.text.chain.write_path.Goals as goal

pub returns-in_err-write_steps : goal.returns-in_err-write_steps
returns-in_err-write_steps g c =
    let pools = g.L.Lookups.pools c.args.lookups.now in
    let p = err_from_is_err_and c.from_residual.result c.from_residual.ensures.1 in
    rw (p.1, p.2) (earlier_named pools (steps_sought c.args.steps.now pools) (tail_sought c.args.tail.now pools) _ c.in_err-write_steps.ensures)

pub returns : goal.returns
returns g c =
    let pools = g.L.Lookups.pools c.args.lookups.now in
    later_decide pools (steps_sought c.args.steps.now pools) (tail_sought c.args.tail.now pools) c.write_tail.result c.in_ok-write_steps.ensures c.write_tail.ensures
