use Rattle.grain_rules.proofs.Law.{edge_steps}
use Rattle.grain_rules.proofs.laws.edges_are_steps.Goals as goal

pub returns : goal.returns
returns c = edge_steps
