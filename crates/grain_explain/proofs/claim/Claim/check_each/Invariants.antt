use Rattle.std.proofs.Common.{length}
use Rattle.grain_explain.specs.Claimed.{HasRow, claimed}
use Rattle.grain_explain.proofs.EdgeMatches.{UpTo}
use Rattle.grain_explain.proofs.claim.Claim.check_each.Given as goal

abbrev pub invariant-loop-target : goal.invariant-loop-target
invariant-loop-target g l =
    UpTo (HasRow (claimed g.P.Read.facts g.P.Read.leads l.self) l.edge) (g.T.Targets.left l.initial.targets) (g.T.Targets.left l.targets)

abbrev pub decreases-loop-target : goal.decreases-loop-target
decreases-loop-target g l = length (g.T.Targets.left l.targets)
