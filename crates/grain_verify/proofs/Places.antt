-- Places in lists.
use Rattle.std.proofs.Common.{◌≡◌, ◌⊎◌, inl, inr, ℕ, zero, suc, List, [], ◌∷◌, Option, Some, None, get_or, set, refl, ap}
use Rattle.std.proofs.lemmas.Option.{same_Some}

-- what is in a list after one place was set
pub set_cases : {A : Type 0} (xs : List (Option A)) (j k : ℕ) (a b : A) → get_or (set xs j (Some a)) k None ≡ Some b → ((k ≡ j) × (a ≡ b)) ⊎ (get_or xs k None ≡ Some b)
set_cases [] j k a b e = inr e
set_cases (x ∷ xs) zero zero a b e = inl (refl, same_Some a b e)
set_cases (x ∷ xs) zero (suc k) a b e = inr e
set_cases (x ∷ xs) (suc j) zero a b e = inr e
set_cases (x ∷ xs) (suc j) (suc k) a b e = elim (set_cases xs j k a b e) [ inl h ↦ inl (ap suc h.0, h.1) | inr old ↦ inr old ]
