use Rattle.std.proofs.Common.{◌≡◌, ◌+◌, take}
use Rattle.grain_flat.specs.PoolsFlaws.{all_cases, all_ranges}
use Rattle.grain_flat.proofs.flat.arms_flaw.Given as goal

abbrev pub invariant-loop-index : goal.invariant-loop-index
invariant-loop-index l = record {
  cases : all_cases (take l.index l.rows) + l.cases_left ≡ l.cases;
  ranges : all_ranges (take l.index l.rows) + l.ranges_left ≡ l.ranges;
}
