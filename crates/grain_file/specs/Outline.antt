-- Where the parts of a file are: one after another, with nothing between them.
use Rattle.std.specs.Prelude.{◌≡◌, ℕ, ◌≤◌, List, [], ◌∷◌, length}
use Rattle.grain.specs.Program.{Program}
use Rattle.grain.specs.declared.sidecar.Sidecar.{Sidecar}
use Rattle.grain_file.specs.declared.items.Item.{Item}
use Rattle.grain_file.specs.declared.items.Placed.{Placed}
use Rattle.grain_file.specs.ProgramFile.{Bounds, IsFile, kept}
use Rattle.grain_file.specs.SidecarFile.{IsSidecarFile, sidecar_parts}

-- The first item begins at the one place, each other item where the one before it ends, and the last ends at the other place.
abbrev pub Tile : ℕ → List Item → ℕ → Type 0
Tile from [] to = from ≡ to
Tile from (item ∷ items) to = (item.start ≡ from) × (item.start ≤ item.end) × Tile item.end items to

-- the items tile each file of the program, from its first byte to its last
abbrev pub IsOutline : List Item → Program → Type 0
IsOutline items p = (bounds : Bounds) (bytes : List ℕ) → IsFile bounds bytes (kept p) → Tile 0 items (length bytes)

abbrev pub IsSidecarOutline : List Item → Sidecar → Type 0
IsSidecarOutline items s = (bytes : List ℕ) → IsSidecarFile bytes (sidecar_parts s) → Tile 0 items (length bytes)

-- the items tile all of a file in the making up to this place, where the last one ends
pub record IsPlacedTo (placed : Placed) (to : ℕ) : Type 0 where
  pub end : placed.end ≡ to
  pub tiled : Tile 0 placed.items.items to
