use Rattle.std.proofs.Common.{arith}
use Rattle.grain_flat.specs.Flat.{IsStepRow}
use Rattle.grain_flat.proofs.PoolsFlaws.{within_more}
use Rattle.grain_flat.proofs.flat.first_other_step.Goals as goal

pub loop-index-preserved : goal.loop-index-preserved
loop-index-preserved c = within_more IsStepRow c.args.rows.now c.loop-index.index _ c.loop-index-test.true c.loop-index.invariant (c.is_step_row.ensures.0 c.if-not-is_step_row.false)

pub returns-clause-none : goal.returns-clause-none
returns-clause-none c k d inside = c.loop-index.invariant k d (omega arith) (omega arith)
