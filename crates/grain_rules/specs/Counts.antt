-- What every path to an operation has to agree on.
use Rattle.std.specs.Prelude.{ℕ, List, [], ◌∷◌}

-- the base of an armed handler: how many operands and iterators stood when it was armed
pub record Base : Type 0 where
  pub operands : ℕ
  pub iterators : ℕ

-- how many operands and iterators there are, and the bases of the armed handlers, that of the last first
pub record Counts : Type 0 where
  pub operands : ℕ
  pub iterators : ℕ
  pub bases : List Base

-- what every path starts with
abbrev pub nothing : Counts
nothing = record { operands = 0; iterators = 0; bases = [] }

-- the bases once another handler is armed, with what is on the stacks now
abbrev pub armed : Counts → List Base
armed c = record { operands = c.operands; iterators = c.iterators } ∷ c.bases

-- all but the last, if the last comes first
abbrev pub without_last : {A : Type 0} → List A → List A
without_last [] = []
without_last (x ∷ xs) = xs

-- the base of the handler that was armed last; if none is armed, that of empty stacks
abbrev pub last_base : List Base → Base
last_base [] = record { operands = 0; iterators = 0 }
last_base (b ∷ bs) = b
