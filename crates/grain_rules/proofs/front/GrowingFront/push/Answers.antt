use Rattle.grain_code.proofs.Boundaries.{split_more}
use Rattle.grain_rules.proofs.front.GrowingFront.push.Goals as goal

pub returns-clause-is : goal.returns-clause-is
returns-clause-is c code op inside stands wide is = rw c.push.ensures (split_more code c.args.self.now.starts c.args.self.now.end c.args.next op inside is stands wide)
