use Rattle.std.specs.Prelude.{IfSome, MatchOption}
use Rattle.std.proofs.Common.{◌≡◌, ◌<◌, ◌≤◌, ℕ, get_or, None, Some}
use Rattle.grain_explain.specs.Pursuits.{WasVisited}
use Rattle.grain_explain.specs.declared.arrival.Arrival.{Arrival}
use Rattle.grain_explain.proofs.scene.Scene.deepest.Given as goal

abbrev pub invariant-loop-slot : goal.invariant-loop-slot
invariant-loop-slot g l = record {
  holds : IfSome l.deepest (λ a. WasVisited l.visited.slots.now a.now);
  most : (k : ℕ) (a : Arrival) → k < l.slot-index → get_or l.visited.slots.now k None ≡ Some a → MatchOption l.deepest ⊥ (λ x. a.row.operands ≤ x.now.row.operands);
}
