use Rattle.grain_base.proofs.ShortestSpelling.{one_shortest}
use Rattle.grain_base.proofs.laws.one_shortest_spelling.Goals as goal

pub returns : goal.returns
returns c = one_shortest
