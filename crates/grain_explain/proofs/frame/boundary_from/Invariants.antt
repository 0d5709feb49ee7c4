use Rattle.std.proofs.Common.{◌≤◌, ◌-◌}
use Rattle.grain_rules.specs.Layout.{IsBoundary}
use Rattle.grain_explain.proofs.frame.boundary_from.Given as goal

abbrev pub invariant-loop-here : goal.invariant-loop-here
invariant-loop-here l = record {
  boundary : IsBoundary l.code l.here;
  below : IsBoundary l.code l.at → l.from ≤ l.at → l.here ≤ l.at;
}

abbrev pub decreases-loop-here : goal.decreases-loop-here
decreases-loop-here l = l.at - l.here
