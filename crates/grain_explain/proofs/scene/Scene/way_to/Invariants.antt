use Rattle.std.proofs.Common.{◌≡◌, ◌∷◌, ◌++◌, ◌+◌, ◌-◌, ℕ, List, length}
use Rattle.std.specs.List.{All}
use Rattle.grain_explain.specs.Pursuits.{WasVisited, IsRowIn}
use Rattle.grain_explain.specs.Scenes.{ArrivesInWalk, LeadsBack, seen, visit_count}
use Rattle.grain_explain.specs.Ways.{IsWay, IsWayTo, Stop, arrival_stop, stops_of}
use Rattle.grain_explain.proofs.scene.Scene.way_to.Given as goal

abbrev pub invariant-back : goal.invariant-back
invariant-back g l = record {
  come : ArrivesInWalk (seen g.P.Read.facts g.P.Read.leads l.self) l.visited l.here;
  back : (n : ℕ) × (n + length l.way.items ≡ visit_count l.visited.slots.now + 1) × LeadsBack l.visited.slots.now n l.here;
  visited : WasVisited l.visited.slots.now l.fn.last → WasVisited l.visited.slots.now l.here × All (IsRowIn l.visited.slots.now) l.way.items;
  so_far : (earlier : List Stop) → IsWay (seen g.P.Read.facts g.P.Read.leads l.self).code l.self.chunk.now (arrival_stop l.visited.bases.now l.here) earlier
      → IsWayTo (seen g.P.Read.facts g.P.Read.leads l.self).code l.self.chunk.now (arrival_stop l.visited.bases.now l.fn.last) (stops_of l.visited.bases.now l.way.items ++ arrival_stop l.visited.bases.now l.here ∷ earlier);
}

abbrev pub decreases-back : goal.decreases-back
decreases-back g l = visit_count l.visited.slots.now + 1 - length l.way.items
