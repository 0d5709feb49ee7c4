use Rattle.std.proofs.Common.{◌≡◌, map}
use Rattle.grain_pools.specs.Dispatch.{Case, first_past}
use Rattle.grain_rules.proofs.pool_reads.bad_case.Given as goal

-- what is left to read decides
abbrev pub invariant-loop-constant : goal.invariant-loop-constant
invariant-loop-constant l =
    first_past l.consts (map (λ (c : Case). c.1.1) l.cases.entries) ≡ first_past l.consts (map (λ (c : Case). c.1.1) l.constant-iterator)
