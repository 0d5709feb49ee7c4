-- Room into which a list is written item by item.
use Rattle.std.proofs.Common.{◌≡◌, ℕ, zero, suc, ◌<◌, ◌≤◌, ⊎_elim, Bool, cond, List, [], ◌∷◌, ◌++◌, length, map, take, set, nat_lt, slice_set, refl, sym, ap, ◌∙◌, arith}
use Rattle.std.proofs.lemmas.Bool.{cases_lt, lt-ltb, le-ltb}
use Rattle.std.proofs.lemmas.List.{map_push}
use Rattle.grain_flat.specs.Listing.{filled}

module _ {A : Type 0} where
  take_none : (n : ℕ) → ◌≡◌ {A = List A} (take n []) []
  take_none zero = refl
  take_none (suc n) = refl

  pub filled_none : (room : List A) → room ≡ filled [] room
  filled_none [] = refl
  filled_none (r ∷ rs) = refl

  pub filled_length : (items room : List A) → length (filled items room) ≡ length room
  filled_length [] room = ap (λ (xs : List A). length xs) (sym (filled_none room))
  filled_length (i ∷ is) [] = refl
  filled_length (i ∷ is) (r ∷ rs) = ap suc (filled_length is rs)

  filled_set : (items room : List A) (x : A) → length items < length room → set (filled items room) (length items) x ≡ filled (items ++ x ∷ []) room
  filled_set [] [] x l = absurd (omega arith)
  filled_set [] (r ∷ rs) x l = ap (λ (front : List A). x ∷ front ++ rs) (sym (take_none (length rs)))
  filled_set (i ∷ is) [] x l = absurd (omega arith)
  filled_set (i ∷ is) (r ∷ rs) x l = ap (λ (xs : List A). i ∷ xs) (filled_set is rs x (omega arith))

  filled_full : (items room : List A) (x : A) → length room ≤ length items → filled items room ≡ filled (items ++ x ∷ []) room
  filled_full [] [] x l = refl
  filled_full [] (r ∷ rs) x l = absurd (omega arith)
  filled_full (i ∷ is) [] x l = refl
  filled_full (i ∷ is) (r ∷ rs) x l = ap (λ (xs : List A). i ∷ xs) (filled_full is rs x (omega arith))

  -- the next item is written at its place, if the room has it
  pub filled_more : (items room old new : List A) (place : ℕ) (x : A) → old ≡ filled items room → place ≡ length items
      → new ≡ cond (nat_lt place (length old)) (slice_set old place x) old → new ≡ filled (items ++ x ∷ []) room
  filled_more items room old new place x is here put =
      let long : length old ≡ length room = ap (λ (xs : List A). length xs) is ∙ filled_length items room in
      ⊎_elim
      (λ l. put ∙ ap (λ (b : Bool). cond b (set old place x) old) (lt-ltb place (length old) l)
      ∙ ap (λ (xs : List A). set xs place x) is ∙ ap (λ (k : ℕ). set (filled items room) k x) here ∙ filled_set items room x (omega arith))
      (λ g. put ∙ ap (λ (b : Bool). cond b (set old place x) old) (le-ltb place (length old) g) ∙ is ∙ filled_full items room x (omega arith))
      (cases_lt place (length old))

-- the same of items of another form
pub mapped_more : {A B : Type 0} (f : A → B) (items : List A) (room old new : List B) (place : ℕ) (x : A) → old ≡ filled (map f items) room → place ≡ length items
    → new ≡ cond (nat_lt place (length old)) (slice_set old place (f x)) old → new ≡ filled (map f (items ++ x ∷ [])) room
mapped_more {A} {B} f items room old new place x is here put =
    let long : length (map f items) ≡ length items = length_mapped items in
    filled_more (map f items) room old new place (f x) is (here ∙ sym long) put ∙ ap (λ (xs : List B). filled xs room) (sym (map_push f items x))
  where
    length_mapped : (xs : List A) → length (map f xs) ≡ length xs
    length_mapped [] = refl
    length_mapped (y ∷ ys) = ap suc (length_mapped ys)
