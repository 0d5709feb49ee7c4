use Rattle.std.proofs.Common.{◌≡◌, ◌+◌, ◌-◌, ◌≤◌, ◌^◌, ◌++◌, ◌∷◌, [], length}
use Rattle.grain_verify.specs.Asked.{Knows}
use Rattle.grain_verify.specs.Plain.{IsFloor}
use Rattle.grain_verify.specs.Progress.{IsWalking, visits_in, weight}
use Rattle.grain_verify.proofs.walk.Prepared.walk_from.Given as goal

abbrev pub invariant-others : goal.invariant-others
invariant-others g l = record {
  walking : IsWalking l.self l.chunk l.lists l.traversal (l.traversal.work.items ++ l.here ∷ []) l.deepest;
  floor : IsFloor l.lists l.here.state l.floor;
  small : l.floor ≤ 2 ^ 32;
  knows : Knows l.self.code.setting.facts l.asked;
  counted : l.visits ≡ visits_in l.traversal.states;
  lighter : weight l.self l.traversal (length l.traversal.work.items + 1) ≤ weight l.self l.initial.traversal (length l.initial.traversal.work.items + 1);
}

abbrev pub decreases-others : goal.decreases-others
decreases-others g l = length l.traversal.states - visits_in l.traversal.states
