-- Addresses as texts write them.
use Rattle.std.specs.Prelude.{◌≡◌, ◌⊎◌, ◌∷◌, ℕ, List, Some}
use Rattle.std.specs.HashMap.{get_by_text}
use Rattle.grain_lexer.specs.Blanks.{ReadsText, unblanked}
use Rattle.grain_lexer.specs.Numbers.{ReadsNumeral}
use Rattle.grain_parse.specs.declared.labels.Labels.{Labels}

-- behind the blanks comes a number, or a label that has the address, and then what is left
abbrev pub ReadsAddress : Labels → List ℕ → ℕ → List ℕ → Type 0
ReadsAddress labels line address left =
    ReadsNumeral line address left
    ⊎ ((label : List ℕ) × ReadsText line label left × (get_by_text labels.addresses label ≡ Some address))

-- behind the blanks comes a label with its colon, and then what is left
abbrev pub ReadsLabel : List ℕ → List ℕ → Type 0
ReadsLabel line left = (label rest : List ℕ) × ReadsText line label rest × (unblanked rest ≡ 58 ∷ left)
