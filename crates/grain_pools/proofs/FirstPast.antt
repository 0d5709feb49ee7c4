-- The first target past the offsets.
use Rattle.std.proofs.Common.{◌≡◌, ℕ, ◌+◌, ◌<◌, ◌≤◌, List, [], ◌∷◌, ◌++◌, Bool, true, false, cond, nat_le, Some, None, refl, arith, add-one}
use Rattle.std.proofs.lemmas.Bool.Decides.{nat_tests}
use Rattle.std.proofs.lemmas.List.Elements.{All-nil, All-cons}
use Rattle.std.proofs.lemmas.List.Folds.{find-append}
use Rattle.std.specs.List.{All, Contains}
use Rattle.std.specs.Option.{option_or}
use Rattle.grain_pools.specs.Dispatch.{first_past}

pub past_append : (n : ℕ) (xs ys : List ℕ) → first_past n (xs ++ ys) ≡ option_or (first_past n xs) (first_past n ys)
past_append n xs ys = find-append (λ t. nat_le n t) xs ys

contains_more : (t x : ℕ) (ts : List ℕ) → Contains ts x → Contains (t ∷ ts) x
contains_more t x ts h = (h.0 + 1, omega (arith, h.1), rw add-one h.2)

-- what was found is one of the targets, and past the offsets
pub past_some : (n x : ℕ) (ts : List ℕ) → first_past n ts ≡ Some x → Contains ts x × (n ≤ x)
past_some n x [] is = absurd (cc)
past_some n x (t ∷ ts) is = at (nat_le n t) refl is (past_some n x ts)
  where
    at : (b : Bool) → nat_le n t ≡ b → cond b (Some t) (first_past n ts) ≡ Some x → (first_past n ts ≡ Some x → Contains ts x × (n ≤ x)) → Contains (t ∷ ts) x × (n ≤ x)
    at true test is more = let e : t ≡ x = cc in ((0, omega arith, e), grind (arith, nat_tests))
    at false test is more = let h : Contains ts x × (n ≤ x) = more is in (contains_more t x ts h.0, h.1)

-- where none was found, each target is an index of the offsets
pub past_none : (n : ℕ) (ts : List ℕ) → first_past n ts ≡ None → All (λ t. t < n) ts
past_none n [] is = All-nil _
past_none n (t ∷ ts) is = at (nat_le n t) refl is (past_none n ts)
  where
    at : (b : Bool) → nat_le n t ≡ b → cond b (Some t) (first_past n ts) ≡ None → (first_past n ts ≡ None → All (λ u. u < n) ts) → All (λ u. u < n) (t ∷ ts)
    at true test is more = absurd (cc)
    at false test is more = All-cons (λ u. u < n) t ts (grind (arith, nat_tests)) (more is)
