use Rattle.grain_flat.proofs.StepRows.{found}
use Rattle.grain_flat.proofs.flat.is_step_row.Goals as goal

pub returns : goal.returns
returns c = rw c.is_some.ensures (found c.step_of.result c.args.row.now c.step_of.ensures.some c.step_of.ensures.none)
