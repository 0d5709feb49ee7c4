use Rattle.std.proofs.Common.{length}
use Rattle.grain_verify.proofs.PushedTargets.{PushesUpTo}
use Rattle.grain_verify.proofs.edges.push_targets.Given as goal

abbrev pub invariant-loop-target : goal.invariant-loop-target
invariant-loop-target g l =
    PushesUpTo l.starts.starts l.chunk l.after (g.T.Targets.left l.initial.targets) (g.T.Targets.left l.targets) l.initial.work.items l.work.items

abbrev pub decreases-loop-target : goal.decreases-loop-target
decreases-loop-target g l = length (g.T.Targets.left l.targets)
