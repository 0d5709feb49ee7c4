use Rattle.std.proofs.Common.{◌≡◌, ◌++◌, map, take, drop, length}
use Rattle.std.specs.List.{AllWithin}
use Rattle.grain_pools.specs.Dispatch.{arms, AreWithin, resolved}
use Rattle.grain_bytecode.proofs.switch_targets.resolve_switch_targets.Given as goal

-- each switch so far has only indices of the offsets
abbrev pub invariant-loop-table : goal.invariant-loop-table
invariant-loop-table l = AllWithin (λ s. AreWithin (length l.offsets) (arms s)) l.switch-items 0 l.table

-- those before the index are resolved, and the others are as they were
abbrev pub invariant-loop-switch : goal.invariant-loop-switch
invariant-loop-switch l =
    map arms l.switches
    ≡ map (resolved l.offsets) (take l.switch-index (map arms l.initial.switches)) ++ drop l.switch-index (map arms l.initial.switches)
