-- One item more behind items that tile.
use Rattle.std.proofs.Common.{◌≡◌, ℕ, ◌≤◌, List, [], ◌∷◌, ◌++◌, refl, sym, ◌∙◌}
use Rattle.grain_file.specs.declared.items.Item.{Item}
use Rattle.grain_file.specs.Outline.{Tile}

pub tiles_push : (from : ℕ) (items : List Item) (to : ℕ) (item : Item) → Tile from items to → item.start ≡ to → item.start ≤ item.end → Tile from (items ++ item ∷ []) item.end
tiles_push from [] to item tiled start end = (start ∙ sym tiled, end, refl)
tiles_push from (first ∷ items) to item tiled start end = (tiled.0, tiled.1, tiles_push first.end items to item tiled.2 start end)
