-- Positions as texts write them.
use Rattle.std.specs.Prelude.{◌≡◌, ◌⊎◌, ℕ, List, ◌∷◌, MatchOption, None, codes}
use Rattle.grain_base.specs.Place.{place_of}
use Rattle.grain_base.specs.declared.position.Position.{Position}
use Rattle.grain_lexer.specs.Blanks.{ReadsText, unblanked}
use Rattle.grain_lexer.specs.Numbers.{ReadsNumeral}

-- a line comes and a column behind a colon, and then what is left
abbrev pub ReadsPlace : List ℕ → ℕ × ℕ → List ℕ → Type 0
ReadsPlace line place left =
    (rest column : List ℕ) × ReadsNumeral line place.0 rest × (unblanked rest ≡ 58 ∷ column) × ReadsNumeral column place.1 left

-- behind the blanks comes @ and then a line with a column, or `none` of a position that is no place, and then what is left
abbrev pub ReadsPosition : List ℕ → Position → List ℕ → Type 0
ReadsPosition line position left =
    (rest : List ℕ) × (unblanked line ≡ 64 ∷ rest)
    × MatchOption (place_of position) (ReadsText rest (codes "none") left) (λ place. ReadsPlace rest place left)

-- a position comes, or none does and it is no place
abbrev pub ReadsPositionOrNone : List ℕ → Position → List ℕ → Type 0
ReadsPositionOrNone line position left =
    ReadsPosition line position left ⊎ ((place_of position ≡ None) × (left ≡ unblanked line))
