use Rattle.std.proofs.Common.{◌≡◌, ◌++◌, drop, map}
use Rattle.grain_pools.specs.declared.switch.SwitchRange.{SwitchRange}
use Rattle.grain_flat_file.specs.Contents.{range_row}
use Rattle.grain_flat_file.proofs.pools.SwitchLists.add_ranges.Given as goal

abbrev pub invariant-loop-range : goal.invariant-loop-range
invariant-loop-range l = record {
  targets : l.self.targets.items ++ map (λ (r : SwitchRange). r.target) (drop l.range-index l.ranges) ≡ l.initial.self.targets.items ++ map (λ (r : SwitchRange). r.target) l.ranges;
  ranges : l.self.ranges.items ++ map range_row (drop l.range-index l.ranges) ≡ l.initial.self.ranges.items ++ map range_row l.ranges;
  rows : l.self.rows ≡ l.initial.self.rows;
  cases : l.self.cases ≡ l.initial.self.cases;
}
