use Rattle.std.proofs.Common.{◌≡◌, vec_len}
use Rattle.grain_explain.specs.Pursuits.{ArePursued}
use Rattle.grain_explain.specs.Scenes.{IsSearching, seen}
use Rattle.grain_explain.proofs.scene.Scene.turn.Given as goal

abbrev pub invariant-loop-arrival : goal.invariant-loop-arrival
invariant-loop-arrival g l = record {
  same : l.search.slots.items ≡ l.initial.search.slots.items;
  searching : IsSearching (seen g.P.Read.facts g.P.Read.leads l.self) l.search;
  pursued : ArePursued (seen g.P.Read.facts g.P.Read.leads l.self) l.search.arming.bases.items l.search.slots.items l.search.work.items;
}

abbrev pub decreases-loop-arrival : goal.decreases-loop-arrival
decreases-loop-arrival g l = vec_len l.search.work
