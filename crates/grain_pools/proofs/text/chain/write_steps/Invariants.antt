use Rattle.std.proofs.Common.{◌≡◌, drop}
use Rattle.grain_pools.specs.LookedUp.{first_missing, steps_sought}
use Rattle.grain_pools.proofs.text.chain.write_steps.Given as goal

-- what is left to look up decides
abbrev pub invariant-loop-i : goal.invariant-loop-i
invariant-loop-i g l =
    let pools = g.L.Lookups.pools l.lookups in
    first_missing pools (steps_sought l.steps pools) ≡ first_missing pools (steps_sought (drop l.i l.steps) pools)
