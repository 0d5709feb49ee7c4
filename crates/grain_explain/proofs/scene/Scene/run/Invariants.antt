use Rattle.std.proofs.Common.{◌-◌, length}
use Rattle.grain_explain.specs.Pursuits.{IsTurn}
use Rattle.grain_explain.specs.Scenes.{IsSearching, seen, visit_count}
use Rattle.grain_explain.proofs.scene.Scene.run.Given as goal

abbrev pub invariant-turns : goal.invariant-turns
invariant-turns g l = record {
  searching : IsSearching (seen g.P.Read.facts g.P.Read.leads l.self) l.search;
  turn : IsTurn (seen g.P.Read.facts g.P.Read.leads l.self) l.search l.next;
}

abbrev pub decreases-turns : goal.decreases-turns
decreases-turns g l = length l.search.slots.items - visit_count l.search.slots.items
