use Rattle.std.proofs.Common.{◌≡◌, ◌++◌, length}
use Rattle.grain_explain.proofs.switches.list_of.Given as goal

abbrev pub invariant-loop-target : goal.invariant-loop-target
invariant-loop-target g l = l.listed.items ++ g.T.Targets.left l.targets ≡ g.T.Targets.left l.initial.targets

abbrev pub decreases-loop-target : goal.decreases-loop-target
decreases-loop-target g l = length (g.T.Targets.left l.targets)
