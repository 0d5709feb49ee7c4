use Rattle.grain_base.proofs.GroupReads.{Passes}
use Rattle.grain_base.proofs.varint.groups.Given as goal

abbrev pub invariant-loop-group : goal.invariant-loop-group
invariant-loop-group l = Passes l.bytes l.fn.at l.group l.value l.at
