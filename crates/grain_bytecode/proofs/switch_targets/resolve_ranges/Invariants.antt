use Rattle.std.proofs.Common.{◌≡◌, ◌++◌, map, take, drop}
use Rattle.grain_pools.specs.Dispatch.{resolved_range}
use Rattle.grain_bytecode.proofs.switch_targets.resolve_ranges.Given as goal

-- those before the index are resolved, and the others are as they were
abbrev pub invariant-loop-range : goal.invariant-loop-range
invariant-loop-range l =
    l.ranges ≡ map (resolved_range l.offsets) (take l.range-index l.initial.ranges) ++ drop l.range-index l.initial.ranges
