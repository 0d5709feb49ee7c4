use Rattle.grain_base.proofs.ShortestSpelling.{Written}
use Rattle.grain_base.proofs.varint.put_u64.Given as goal

abbrev pub invariant-loop-rest : goal.invariant-loop-rest
invariant-loop-rest l = Written l.groups l.last l.rest l.value

abbrev pub decreases-loop-rest : goal.decreases-loop-rest
decreases-loop-rest l = l.rest
