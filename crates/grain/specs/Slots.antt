-- Positions that are written from slots, one after another.
use Rattle.std.specs.Prelude.{◌≡◌, ℕ, suc, zero, List, [], ◌∷◌, Option, None, drop, length, map}
use Rattle.grain_base.specs.Place.{place_of}
use Rattle.grain_base.specs.declared.pos.Site.{Site}
use Rattle.grain_base.specs.declared.position.Position.{Position}
use Rattle.grain_bytecode.specs.Positions.{Place}
use Rattle.grain.specs.Sidecars.{slot_place}

-- the places of this many slots; past the last there is none
abbrev pub drawn : ℕ → List (Option Site) → List Place
drawn zero slots = []
drawn (suc n) [] = None ∷ drawn n []
drawn (suc n) (slot ∷ slots) = slot_place slot ∷ drawn n slots

-- in place of these positions stand those of the first slots, which are taken off
pub record IsDrawn (before after : List Position) (slots left : List (Option Site)) : Type 0 where
  pub places : map place_of after ≡ drawn (length before) slots
  pub rest : left ≡ drop (length before) slots
