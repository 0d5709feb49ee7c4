-- The addresses below a limit that have their bits set.
use Rattle.std.proofs.Common.{◌≡◌, ℕ, zero, suc, ◌+◌, ◌<◌, ◌≤◌, ◌⊎◌, inl, inr, Bool, true, false, cond, nat_lt, List, [], ◌∷◌, ◌++◌, length, slice_get, Some, refl, sym, ap, subst, ◌∙◌, arith, add-one}
use Rattle.std.specs.Prelude.{filter, count_by}
use Rattle.std.specs.List.{range_with_len, Contains}
use Rattle.std.proofs.lemmas.Bool.{cases_lt, lt-ltb, le-ltb}
use Rattle.std.proofs.lemmas.List.{append-nil, map-id, length_push}
use Rattle.std.proofs.lemmas.List.Elements.{filter-append}
use Rattle.std.proofs.lemmas.List.FromFn.{map-range_with_len_more, length-range_with_len}
use Rattle.std.proofs.lemmas.List.Sums.{length-filter, count_by-le-length, sum_by_push}
use Rattle.std.proofs.lemmas.Option.{slice_get-get_or, slice_get_within, get_or_from_slice_get}
use Rattle.grain_code.specs.Starts.{is_set, set_below}

range_more : (n : ℕ) → range_with_len 0 (suc n) ≡ range_with_len 0 n ++ n ∷ []
range_more n =
    ap (range_with_len 0) (sym (add-one n)) ∙ sym (map-id (range_with_len 0 (n + 1))) ∙ map-range_with_len_more (λ (x : ℕ). x) 0 n n (omega arith)
    ∙ ap (λ ns. ns ++ n ∷ []) (map-id (range_with_len 0 n))

-- one limit more
below_more : (bits : List ℕ) (n : ℕ) → set_below bits (suc n) ≡ set_below bits n ++ cond (is_set bits n) (n ∷ []) []
below_more bits n = ap (filter (is_set bits)) (range_more n) ∙ filter-append (is_set bits) (range_with_len 0 n) (n ∷ [])

pub below_set : (bits : List ℕ) (n : ℕ) → is_set bits n ≡ true → set_below bits (suc n) ≡ set_below bits n ++ n ∷ []
below_set bits n is = below_more bits n ∙ ap (λ b. set_below bits n ++ cond b (n ∷ []) []) is

pub below_unset : (bits : List ℕ) (n : ℕ) → is_set bits n ≡ false → set_below bits (suc n) ≡ set_below bits n
below_unset bits n is = below_more bits n ∙ ap (λ b. set_below bits n ++ cond b (n ∷ []) []) is ∙ append-nil (set_below bits n)

-- where no bit is set in between, a higher limit gives no more
pub gap : (bits : List ℕ) (at to : ℕ) → at ≤ to → ((b : ℕ) → at ≤ b → is_set bits b ≡ false) → set_below bits to ≡ set_below bits at
gap bits at zero inside none = let e : zero ≡ at = omega arith in ap (set_below bits) e
gap bits at (suc to) inside none = elim (cases_lt to at) [
  | inl past ↦ let e : suc to ≡ at = omega arith in ap (set_below bits) e
  | inr before ↦ below_unset bits to (none to before) ∙ gap bits at to before none
]

-- bits that are alike below a limit
pub alike : (bits others : List ℕ) (n : ℕ) → ((b : ℕ) → b < n → is_set bits b ≡ is_set others b) → set_below bits n ≡ set_below others n
alike bits others zero same = refl
alike bits others (suc n) same =
    below_more bits n ∙ ap (λ ns. ns ++ cond (is_set bits n) (n ∷ []) []) (alike bits others n (λ b below. same b (omega arith)))
    ∙ ap (λ b. set_below others n ++ cond b (n ∷ []) []) (same n (omega arith)) ∙ sym (below_more others n)

-- no more than the limit
pub few_below : (bits : List ℕ) (n : ℕ) → length (set_below bits n) ≤ n
few_below bits n = omega (arith, length-filter (is_set bits) (range_with_len 0 n), count_by-le-length (is_set bits) (range_with_len 0 n), length-range_with_len 0 n)

-- what has an element still has it with more behind it
listed : {X : Type 0} (xs ys : List X) (k : ℕ) (x : X) → slice_get xs k ≡ Some x → slice_get (xs ++ ys) k ≡ Some x
listed [] ys k x is = absurd (cc)
listed (y ∷ xs) ys zero x is = is
listed (y ∷ xs) ys (suc k) x is = listed xs ys k x is

listed_last : {X : Type 0} (xs : List X) (x : X) → slice_get (xs ++ x ∷ []) (length xs) ≡ Some x
listed_last [] x = refl
listed_last (y ∷ xs) x = listed_last xs x

-- an element of a list and one more is one of the list, or that one
pub listed_cases : {X : Type 0} (xs : List X) (y : X) (k : ℕ) (x : X) → slice_get (xs ++ y ∷ []) k ≡ Some x → (slice_get xs k ≡ Some x) ⊎ ((k ≡ length xs) × (y ≡ x))
listed_cases [] y zero x is = let e : y ≡ x = cc in inr (refl, e)
listed_cases [] y (suc k) x is = absurd (cc)
listed_cases (z ∷ xs) y zero x is = inl is
listed_cases (z ∷ xs) y (suc k) x is = elim (listed_cases xs y k x is) [ inl there ↦ inl there | inr last ↦ inr (ap suc last.0, last.1) ]

-- an address with its bit set stands behind those that are lower
pub set_listed : (bits : List ℕ) (n at : ℕ) → at < n → is_set bits at ≡ true → slice_get (set_below bits n) (length (set_below bits at)) ≡ Some at
set_listed bits zero at inside is = absurd (omega arith)
set_listed bits (suc n) at inside is = elim (cases_lt at n) [
  | inl below ↦ ap (λ (xs : List ℕ). slice_get xs (length (set_below bits at))) (below_more bits n) ∙ listed (set_below bits n) _ _ at (set_listed bits n at below is)
  | inr last ↦
      let e : at ≡ n = omega arith in
      subst (λ m. slice_get (set_below bits (suc m)) (length (set_below bits at)) ≡ Some at) e
      (ap (λ (xs : List ℕ). slice_get xs (length (set_below bits at))) (below_set bits at is) ∙ listed_last (set_below bits at) at)
]

-- and nothing else does
pub listed_set : (bits : List ℕ) (n k at : ℕ) → slice_get (set_below bits n) k ≡ Some at → (at < n) × (is_set bits at ≡ true) × (k ≡ length (set_below bits at))
listed_set bits zero k at is = absurd (cc)
listed_set bits (suc n) k at is = last (is_set bits n) refl (listed_set bits n k at)
  where
    last : (b : Bool) → is_set bits n ≡ b → (slice_get (set_below bits n) k ≡ Some at → (at < n) × (is_set bits at ≡ true) × (k ≡ length (set_below bits at)))
        → (at < suc n) × (is_set bits at ≡ true) × (k ≡ length (set_below bits at))
    last true here more = elim (listed_cases (set_below bits n) n k at (ap (λ (xs : List ℕ). slice_get xs k) (sym (below_set bits n here)) ∙ is)) [
      | inl there ↦ let found = more there in (omega (arith, found.0), found.1, found.2)
      | inr end ↦ (omega (arith, end.1), subst (λ m. is_set bits m ≡ true) end.1 here, end.0 ∙ ap (λ m. length (set_below bits m)) end.1)
    ]
    last false here more = let found = more (ap (λ (xs : List ℕ). slice_get xs k) (sym (below_unset bits n here)) ∙ is) in (omega (arith, found.0), found.1, found.2)

-- just the addresses with their bits set are there
pub set_contained : (bits : List ℕ) (n at : ℕ) → at < n → is_set bits at ≡ true → Contains (set_below bits n) at
set_contained bits n at inside is =
    let there = set_listed bits n at inside is in
    (length (set_below bits at), slice_get_within (set_below bits n) _ at there, get_or_from_slice_get (set_below bits n) _ at at there)

pub contained_set : (bits : List ℕ) (n at : ℕ) → Contains (set_below bits n) at → (at < n) × (is_set bits at ≡ true)
contained_set bits n at (k, inside, e) =
    let there = listed_set bits n k at (slice_get-get_or (set_below bits n) k at inside ∙ ap (λ (x : ℕ). Some x) e) in
    (there.0, there.1)

-- those below a limit are all lower than what isn't lower than the limit
lower : (bits : List ℕ) (at n : ℕ) → n ≤ at → count_by (λ s. nat_lt s at) (set_below bits n) ≡ length (set_below bits n)
lower bits at zero inside = refl
lower bits at (suc n) inside = last (is_set bits n) refl (lower bits at n (omega arith))
  where
    last : (b : Bool) → is_set bits n ≡ b → count_by (λ s. nat_lt s at) (set_below bits n) ≡ length (set_below bits n) → count_by (λ s. nat_lt s at) (set_below bits (suc n)) ≡ length (set_below bits (suc n))
    last true here more =
        ap (count_by (λ s. nat_lt s at)) (below_set bits n here) ∙ sum_by_push (λ s. cond (nat_lt s at) 1 0) (set_below bits n) n
        ∙ ap (λ b. count_by (λ s. nat_lt s at) (set_below bits n) + cond b 1 0) (lt-ltb n at (omega arith))
        ∙ ap (λ k. k + 1) more ∙ sym (length_push (set_below bits n) n) ∙ ap length (sym (below_set bits n here))
    last false here more = ap (count_by (λ s. nat_lt s at)) (below_unset bits n here) ∙ more ∙ ap length (sym (below_unset bits n here))

-- those that are lower than an address are those below it
pub counted_below : (bits : List ℕ) (at n : ℕ) → at ≤ n → count_by (λ s. nat_lt s at) (set_below bits n) ≡ length (set_below bits at)
counted_below bits at zero inside = let e : zero ≡ at = omega arith in ap (λ m. length (set_below bits m)) e
counted_below bits at (suc n) inside = elim (cases_lt n at) [
  | inl past ↦ let e : suc n ≡ at = omega arith in lower bits at (suc n) (omega arith) ∙ ap (λ m. length (set_below bits m)) e
  | inr before ↦ last (is_set bits n) refl before (counted_below bits at n before)
]
  where
    last : (b : Bool) → is_set bits n ≡ b → at ≤ n → count_by (λ s. nat_lt s at) (set_below bits n) ≡ length (set_below bits at) → count_by (λ s. nat_lt s at) (set_below bits (suc n)) ≡ length (set_below bits at)
    last true here before more =
        ap (count_by (λ s. nat_lt s at)) (below_set bits n here) ∙ sum_by_push (λ s. cond (nat_lt s at) 1 0) (set_below bits n) n
        ∙ ap (λ b. count_by (λ s. nat_lt s at) (set_below bits n) + cond b 1 0) (le-ltb n at before)
        ∙ omega (arith, more)
    last false here before more = ap (count_by (λ s. nat_lt s at)) (below_unset bits n here) ∙ more
