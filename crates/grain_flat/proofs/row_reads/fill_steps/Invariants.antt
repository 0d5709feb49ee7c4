use Rattle.std.proofs.Common.{◌≡◌, take}
use Rattle.std.specs.Prelude.{sum_by}
use Rattle.grain_flat.specs.RowFacts.{part_begins}
use Rattle.grain_flat.specs.declared.records.CChain.{CChain}
use Rattle.grain_flat.proofs.row_reads.fill_steps.Given as goal

abbrev pub invariant-loop-row : goal.invariant-loop-row
invariant-loop-row l = record {
  begun : l.begins.items ≡ part_begins (λ (c : CChain). c.steps) 0 (take l.row-index l.rows);
  sum : l.from ≡ sum_by (λ (c : CChain). c.steps) (take l.row-index l.rows);
}
