-- Labels in the place of jump targets, until it is known to which operation each is bound.
use Rattle.std.specs.Prelude.{ℕ, Bool, List, map, get_or}
use Rattle.grain_code.specs.Fields.{moved}
use Rattle.grain_code.specs.declared.field.Field.{Field}

-- the index to which a label is bound; a label past the list stays
abbrev pub bound : List ℕ → ℕ → ℕ
bound labels label = get_or labels label label

-- an encoding with its target bound
abbrev pub with_labels_bound : List ℕ → ℕ × List Field × List (Bool × Bool) → ℕ × List Field × List (Bool × Bool)
with_labels_bound labels e = (e.0, map (moved (bound labels)) e.1, e.2)
