use Rattle.std.proofs.Common.{sym}
use Rattle.grain_rules.specs.FirstOut.{alone}
use Rattle.grain_rules.proofs.IndexTests.{indexed}
use Rattle.grain_rules.proofs.indices.check_op.Goals as goal

pub returns-in-None-clause-ok : goal.returns-in-None-clause-ok
returns-in-None-clause-ok g c = indexed (alone (g.P.Read.facts c.args.pools.now)) c.args.op.now (sym c.in_ok-check_fields.ensures.refused) (sym c.in-None.ensures.past)
