-- Texts as they are written into room of the caller's.
use Rattle.std.specs.Prelude.{◌≡◌, ◌⊎◌, ℕ, ◌+◌, ◌-◌, ◌<◌, List, ◌∷◌, ◌++◌, drop, length, take}

-- The text stands in front of the room, as far as there is room for it and for the 0 that ends it, and the rest of the room
-- is as it was. If there is no room, nothing is written.
abbrev pub IsPrinted : List ℕ → List ℕ → List ℕ → Type 0
IsPrinted text room written =
    ((length room ≡ 0) × (written ≡ room))
    ⊎ ((0 < length room) × (written ≡ take (length room - 1) text ++ 0 ∷ drop (length text + 1) room))
