use Rattle.grain_base.proofs.ShortestSpelling.{written_more, written_last, appends}
use Rattle.grain_base.proofs.varint.put_u64.Goals as goal

pub loop-rest-preserved : goal.loop-rest-preserved
loop-rest-preserved c = written_more _ _ _ _ c.loop-rest.invariant c.loop-rest-test.true

pub returns-clause-ok : goal.returns-clause-ok
returns-clause-ok c = appends _ _ _ _ _ c.extend_from_slice.ensures.items (written_last _ _ _ _ c.loop-rest.invariant c.loop-rest-test.false)
