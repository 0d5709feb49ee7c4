use Rattle.std.proofs.Common.{◌≡◌, ◌<◌, ◌+◌, ℕ, get_or, None, Some}
use Rattle.std.specs.List.{All, AllZip, Contains}
use Rattle.grain_explain.specs.Explaining.{IsOrigin}
use Rattle.grain_explain.specs.Pursuits.{IsRowIn}
use Rattle.grain_explain.specs.RowView.{AreAscending}
use Rattle.grain_explain.specs.Scenes.{seen}
use Rattle.grain_explain.specs.declared.arrival.Arrival.{Arrival}
use Rattle.grain_explain.specs.declared.row.Row.{Row}
use Rattle.grain_explain.proofs.scene.Scene.rows_of.Given as goal

abbrev pub invariant-loop-slot : goal.invariant-loop-slot
invariant-loop-slot g l = record {
  origins : AllZip (IsOrigin (seen g.P.Read.facts g.P.Read.leads l.self).code l.self.chunk.now l.visited.bases.now) l.rows.items l.origins.items;
  ascending : AreAscending l.rows.items;
  below : All (λ (r : Row). r.at < l.self.chunk.now.entry + l.slot-index) l.rows.items;
  held : All (IsRowIn l.visited.slots.now) l.rows.items;
  whole : (k : ℕ) (a : Arrival) → k < l.slot-index → get_or l.visited.slots.now k None ≡ Some a → Contains l.rows.items a.row;
}
