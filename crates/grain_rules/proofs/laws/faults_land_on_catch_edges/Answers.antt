use Rattle.grain_rules.proofs.Law.{catch_lands}
use Rattle.grain_rules.proofs.laws.faults_land_on_catch_edges.Goals as goal

pub returns : goal.returns
returns c = catch_lands
