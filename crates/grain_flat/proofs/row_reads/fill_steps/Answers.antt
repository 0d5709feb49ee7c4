use Rattle.std.proofs.Common.{arith}
use Rattle.std.proofs.lemmas.Grind.{common_steps}
use Rattle.grain_flat.proofs.RowParts.{begins_more}
use Rattle.grain_flat.proofs.row_reads.fill_steps.Goals as goal

pub loop-row-preserved : goal.loop-row-preserved
loop-row-preserved c = record {
  begun = grind (arith, common_steps, begins_more);
  sum = grind (arith, common_steps);
}
