use Rattle.std.proofs.Common.{◌<◌, ℕ, get_or}
use Rattle.std.specs.List.{All, Contains}
use Rattle.grain_explain.specs.Pursuits.{Keeps, sent_to}
use Rattle.grain_explain.specs.Scenes.{ArrivesInWalk, seen}
use Rattle.grain_explain.proofs.scene.Scene.push_all.Given as goal

abbrev pub invariant-loop-target : goal.invariant-loop-target
invariant-loop-target g l = record {
  waits : All (ArrivesInWalk (seen g.P.Read.facts g.P.Read.leads l.self) l.departure.visited) l.work.items;
  keeps : Keeps l.initial.work.items l.work.items;
  sent : (k d : ℕ) → k < l.target-index → Contains l.work.items (sent_to l.departure (get_or l.targets k d));
}
