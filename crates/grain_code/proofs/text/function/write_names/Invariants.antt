use Rattle.std.proofs.Common.{◌≡◌, drop}
use Rattle.grain_pools.specs.LookedUp.{first_missing, names_sought}
use Rattle.grain_code.proofs.text.function.write_names.Given as goal

-- what is left to look up decides
abbrev pub invariant-loop-i : goal.invariant-loop-i
invariant-loop-i g l =
    let pools = g.L.Lookups.pools l.lookups in
    first_missing pools (names_sought l.indices pools) ≡ first_missing pools (names_sought (drop l.i l.indices) pools)
