use Rattle.std.proofs.Common.{◌≡◌, map}
use Rattle.grain_pools.specs.Dispatch.{Case, first_past}
use Rattle.grain_bytecode.proofs.switch_targets.first_case_past.Given as goal

-- what is left to read decides
abbrev pub invariant-loop-target : goal.invariant-loop-target
invariant-loop-target l =
    first_past l.offsets (map (λ (c : Case). c.1.0) l.cases.entries) ≡ first_past l.offsets (map (λ (c : Case). c.1.0) l.target-iterator)
