use Rattle.std.proofs.Common.{◌≡◌, ◌++◌, drop, map}
use Rattle.std.specs.List.{flat_map}
use Rattle.grain_flat.specs.Flat.{switch_row}
use Rattle.grain_flat_file.specs.Contents.{switch_cases, switch_ranges, switch_targets_of}
use Rattle.grain_pools.specs.Dispatch.{arms}
use Rattle.grain_flat_file.proofs.pools.switch_lists.Given as goal

abbrev pub invariant-loop-switch : goal.invariant-loop-switch
invariant-loop-switch l = record {
  rows : l.lists.rows.items ++ map (λ s. switch_row (arms s)) (drop l.switch-index l.switches) ≡ map (λ s. switch_row (arms s)) l.switches;
  cases : l.lists.cases.items ++ flat_map switch_cases (drop l.switch-index l.switches) ≡ flat_map switch_cases l.switches;
  targets : l.lists.targets.items ++ flat_map switch_targets_of (drop l.switch-index l.switches) ≡ flat_map switch_targets_of l.switches;
  ranges : l.lists.ranges.items ++ flat_map switch_ranges (drop l.switch-index l.switches) ≡ flat_map switch_ranges l.switches;
}
