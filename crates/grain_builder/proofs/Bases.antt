-- What the handlers of a level stand on.
use Rattle.std.proofs.Common.{◌≡◌, ℕ, ◌+◌, ◌≤◌, zero, suc, List, [], ◌∷◌, drop, refl, ap, arith}
use Rattle.std.proofs.lemmas.List.{drop-drop}
use Rattle.grain_rules.specs.Counts.{Base, last_base, without_last}
use Rattle.grain_builder.specs.Sound.{AreNested, IsBased}
use Rattle.grain_builder.specs.Unfinished.{Level, based_on, fresh, level_without_handlers}

-- what is nested in a number is nested in a larger one
pub nested_within : (n m : ℕ) (bases : List Base) → n ≤ m → AreNested n bases → AreNested m bases
nested_within n m [] le h = tt
nested_within n m (b ∷ bases) le h = (let x = h.0 in omega arith, h.1)

-- the last handler stands on no more
pub last_least : (n : ℕ) (bases : List Base) → AreNested n bases → (last_base bases).iterators ≤ n
last_least n [] h = omega arith
last_least n (b ∷ bases) h = h.0

nested_in_last : (n : ℕ) (bases : List Base) → AreNested n bases → AreNested (last_base bases).iterators bases
nested_in_last n [] h = tt
nested_in_last n (b ∷ bases) h = (omega arith, h.1)

nested_drop : (n k : ℕ) (bases : List Base) → AreNested n bases → AreNested n (drop k bases)
nested_drop n zero bases h = h
nested_drop n (suc k) [] h = tt
nested_drop n (suc k) (b ∷ bases) h = nested_drop n k bases (nested_within b.iterators n bases h.0 h.1)

pub based_fresh : (home : ℕ) → IsBased (fresh home)
based_fresh home = record { operands = omega arith; iterators = tt; there = omega arith }

pub based_without : (n : ℕ) (l : Level) → IsBased l → IsBased (level_without_handlers n l)
based_without n l based =
    let nested = nested_drop l.least n l.bases based.iterators in
    record {
      operands = omega arith;
      iterators = nested_in_last l.least (drop n l.bases) nested;
      there = let a = last_least l.least (drop n l.bases) nested in let b = based.there in omega arith;
    }

pub drop_last : (bases : List Base) → drop 1 bases ≡ without_last bases
drop_last [] = refl
drop_last (b ∷ bases) = refl

-- one more handler is dropped
pub without_one_more : (n : ℕ) (l : Level) → level_without_handlers 1 (level_without_handlers n l) ≡ level_without_handlers (n + 1) l
without_one_more n l = ap (λ (bases : List Base). based_on bases l) (drop-drop 1 n l.bases)
