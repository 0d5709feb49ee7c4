use Rattle.std.proofs.Common.{◌-◌, ◌≤◌, length, take}
use Rattle.grain_rules.specs.Accepted.{AreIndexed}
use Rattle.grain_rules.specs.Setting.{Setting}
use Rattle.grain_rules.proofs.code_test.skip_unindexed.Given as goal

abbrev pub invariant-loop-width : goal.invariant-loop-width
invariant-loop-width g l = record {
  inside : g.F.Front.end_of l.front ≤ length l.code;
  further : g.F.Front.end_of l.fn.front ≤ g.F.Front.end_of l.front;
  room : g.F.Front.HasRoom l.code l.front;
  is : g.F.Front.IsOf l.code l.front;
  indexed : (s : Setting) → AreIndexed s (take (g.F.Front.end_of l.fn.front) l.code) → AreIndexed s (take (g.F.Front.end_of l.front) l.code);
}

abbrev pub decreases-loop-width : goal.decreases-loop-width
decreases-loop-width g l = length l.code - g.F.Front.end_of l.front
