use Rattle.std.proofs.Common.{◌-◌, ◌≤◌, length, take}
use Rattle.grain_rules.specs.Accepted.{AreIndexed}
use Rattle.grain_rules.specs.FirstOut.{HavePassed, alone}
use Rattle.grain_rules.proofs.code_test.test_instructions.Given as goal

-- the code so far passes, and what is written down is so of it
abbrev pub invariant-loop-passed : goal.invariant-loop-passed
invariant-loop-passed g l = record {
  in_code : g.F.Front.end_of l.front ≤ length l.code;
  room : g.F.Front.HasRoom l.code l.front;
  is : g.F.Front.IsOf l.code l.front;
  tested : AreIndexed (alone (g.P.Read.facts l.pools)) (take (g.F.Front.end_of l.front) l.code);
  passed : HavePassed (g.P.Read.facts l.pools) l.passed.chains l.passed.switches;
}

abbrev pub decreases-loop-passed : goal.decreases-loop-passed
decreases-loop-passed g l = length l.code - g.F.Front.end_of l.front
