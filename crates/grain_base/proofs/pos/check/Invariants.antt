use Rattle.grain_base.proofs.TableCheck.{Checked}
use Rattle.grain_base.proofs.pos.check.Given as goal

abbrev pub invariant-loop-entry : goal.invariant-loop-entry
invariant-loop-entry l = Checked l.table l.count l.entry l.address l.at
