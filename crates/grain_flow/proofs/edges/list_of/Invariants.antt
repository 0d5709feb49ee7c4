use Rattle.std.proofs.Common.{length}
use Rattle.grain_flow.proofs.edges.list_of.Given as goal

abbrev pub decreases-loop-target : goal.decreases-loop-target
decreases-loop-target g l = length (g.T.Targets.left l.targets)
