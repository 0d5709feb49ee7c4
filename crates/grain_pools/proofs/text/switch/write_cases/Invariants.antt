use Rattle.std.proofs.Common.{◌≡◌, drop}
use Rattle.grain_pools.specs.LookedUp.{cases_sought, first_missing}
use Rattle.grain_pools.proofs.text.switch.write_cases.Given as goal

-- what is left to look up decides
abbrev pub invariant-loop-target : goal.invariant-loop-target
invariant-loop-target g l =
    let pools = g.L.Lookups.pools l.lookups in
    first_missing pools (cases_sought l.cases pools)
    ≡ first_missing pools (cases_sought (drop l.target-index l.cases) pools)
