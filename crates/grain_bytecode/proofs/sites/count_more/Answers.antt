use Rattle.std.proofs.Common.{◌+◌, ◌≤◌, ◌^◌, length, arith, ap}
use Rattle.grain_pools.specs.Chain.{positions}
use Rattle.grain_bytecode.proofs.SlotStreams.{none_so}
use Rattle.grain_bytecode.proofs.sites.count_more.Goals as goal

pub returns-in_err-count-clause-none : goal.returns-in_err-count-clause-none
returns-in_err-count-clause-none c =
    let past : 2 ^ 64 ≤ c.args.before + length (positions c.args.chain.now) = omega (arith, c.in_err-count.ensures, ap length c.in-Some.ensures.steps) in
    none_so c.from_residual.result past

pub returns-clause-some : goal.returns-clause-some
returns-clause-some c = omega (arith, ap length c.in-None.ensures.steps.0)
