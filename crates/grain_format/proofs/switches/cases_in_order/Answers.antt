use Rattle.std.proofs.Common.{refl}
use Rattle.grain_format.specs.Cases.{ordered}
use Rattle.grain_format.proofs.switches.cases_in_order.Goals as goal

pub returns-in-None : goal.returns-in-None
unfolding ordered
returns-in-None c = rw (c.in-None.is, c.new.ensures.items) (refl, refl, record { ascend = refl; there = refl; new = refl })
