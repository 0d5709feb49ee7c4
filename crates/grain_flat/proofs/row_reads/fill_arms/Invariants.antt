use Rattle.std.proofs.Common.{◌≡◌, map, take}
use Rattle.std.specs.Prelude.{sum_by}
use Rattle.grain_flat.specs.RowFacts.{part_begins}
use Rattle.grain_flat.specs.declared.records.CSwitch.{CSwitch}
use Rattle.grain_flat.specs.declared.row_reads.ArmsBegin.{ArmsBegin}
use Rattle.grain_flat.proofs.row_reads.fill_arms.Given as goal

abbrev pub invariant-loop-row : goal.invariant-loop-row
invariant-loop-row l = record {
  cases_begun : map (λ (b : ArmsBegin). b.cases) l.begins.items ≡ part_begins (λ (s : CSwitch). s.cases) 0 (take l.row-index l.rows);
  ranges_begun : map (λ (b : ArmsBegin). b.ranges) l.begins.items ≡ part_begins (λ (s : CSwitch). s.ranges) 0 (take l.row-index l.rows);
  cases_sum : l.cases ≡ sum_by (λ (s : CSwitch). s.cases) (take l.row-index l.rows);
  ranges_sum : l.ranges ≡ sum_by (λ (s : CSwitch). s.ranges) (take l.row-index l.rows);
}
