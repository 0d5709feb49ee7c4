use Rattle.std.proofs.Common.{◌≡◌, ◌+◌, ◌++◌, ◌∷◌, [], length}
use Rattle.grain_verify.specs.Asked.{Knows}
use Rattle.grain_verify.specs.Progress.{IsWalking, visits_in, weight}
use Rattle.grain_verify.proofs.walk.Prepared.walk.Given as goal

abbrev pub invariant-arrivals : goal.invariant-arrivals
invariant-arrivals g l = record {
  walking : IsWalking l.self l.chunk l.lists l.traversal (l.traversal.work.items ++ l.from ∷ []) l.deepest;
  knows : Knows l.self.code.setting.facts l.asked;
  counted : l.visits ≡ visits_in l.traversal.states;
}

abbrev pub decreases-arrivals : goal.decreases-arrivals
decreases-arrivals g l = weight l.self l.traversal (length l.traversal.work.items + 1)
