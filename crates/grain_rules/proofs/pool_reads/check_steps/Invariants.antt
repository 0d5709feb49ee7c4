use Rattle.std.proofs.Common.{◌≡◌, drop, map}
use Rattle.std.specs.List.{flat_map}
use Rattle.grain_rules.specs.Facts.{facts_of, step_mentions}
use Rattle.grain_rules.specs.FirstOut.{alone, first_out}
use Rattle.grain_rules.specs.Indices.{test_of}
use Rattle.grain_rules.proofs.pool_reads.check_steps.Given as goal

-- what is left to test decides
abbrev pub invariant-loop-step : goal.invariant-loop-step
invariant-loop-step l =
    let test = test_of (alone (facts_of l.pools)) in
    first_out (map test (flat_map (step_mentions l.operands) l.steps)) ≡ first_out (map test (flat_map (step_mentions l.operands) (drop l.step-index l.steps)))
