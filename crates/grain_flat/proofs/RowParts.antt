-- Parts of lists, by where they begin.
use Rattle.std.proofs.Common.{◌≡◌, ℕ, zero, suc, ◌+◌, ◌≤◌, List, [], ◌∷◌, Some, None, length, take, drop, slice_get, ◌++◌, refl, subst, sym, ap, ◌∙◌, arith}
use Rattle.std.specs.Prelude.{sum_by, zip}
use Rattle.std.proofs.lemmas.List.{drop-drop}
use Rattle.std.proofs.lemmas.List.Sums.{sum_by-cons}
use Rattle.std.proofs.lemmas.Option.{none-some}
use Rattle.grain_flat.specs.RowFacts.{part_begins, parts}

module _ {R X : Type 0} (count : R → ℕ) where
  -- each part stands where it begins
  pub part_at : (all : List X) (rows : List R) (from i : ℕ) (row : R) (b : ℕ) → slice_get rows i ≡ Some row → slice_get (part_begins count from rows) i ≡ Some b
      → slice_get (parts count rows (drop from all)) i ≡ Some (take (count row) (drop b all))
  part_at all [] from i row b there begun = absurd (none-some row there)
  part_at all (r ∷ rows) from zero row b there begun = cc (there, begun)
  part_at all (r ∷ rows) from (suc i) row b there begun =
      subst (λ (xs : List X). slice_get (parts count rows xs) i ≡ Some (take (count row) (drop b all))) (sym (drop-drop (count r) from all)) (part_at all rows (from + count r) i row b there begun)

  -- and lies within the list, where the counts add up to what is there
  pub part_within : (all : List X) (rows : List R) (from i : ℕ) (row : R) (b : ℕ) → slice_get rows i ≡ Some row → slice_get (part_begins count from rows) i ≡ Some b
      → from + sum_by count rows ≤ length all → b + count row ≤ length all
  part_within all [] from i row b there begun room = absurd (none-some row there)
  part_within all (r ∷ rows) from zero row b there begun room =
      let same : r ≡ row = cc there in
      let at : from ≡ b = cc begun in
      let more = sum_by-cons count r rows in
      rw (← same, ← at) (omega (arith, more, room))
  part_within all (r ∷ rows) from (suc i) row b there begun room =
      let more = sum_by-cons count r rows in
      part_within all rows (from + count r) i row b there begun (omega (arith, more, room))

  pub part_past : (rows : List R) (xs : List X) (i : ℕ) → slice_get rows i ≡ None → slice_get (parts count rows xs) i ≡ None
  part_past [] xs i none = refl
  part_past (r ∷ rows) xs zero none = absurd (none-some r (sym none))
  part_past (r ∷ rows) xs (suc i) none = part_past rows (drop (count r) xs) i none

  -- there are as many parts, and as many beginnings, as rows
  pub parts_long : (rows : List R) (xs : List X) → length (parts count rows xs) ≡ length rows
  parts_long [] xs = refl
  parts_long (r ∷ rows) xs = ap suc (parts_long rows (drop (count r) xs))

pub begins_long : {R : Type 0} (count : R → ℕ) (from : ℕ) (rows : List R) → length (part_begins count from rows) ≡ length rows
begins_long count from [] = refl
begins_long count from (r ∷ rows) = ap suc (begins_long count (from + count r) rows)

-- one row more
pub begins_more : {R : Type 0} (count : R → ℕ) (from : ℕ) (rows : List R) (row : R) → part_begins count from (rows ++ row ∷ []) ≡ part_begins count from rows ++ (from + sum_by count rows) ∷ []
begins_more count from [] row = let n : from ≡ from + 0 = omega arith in cc n
begins_more count from (r ∷ rows) row =
    let more = sum_by-cons count r rows in
    let n : from + count r + sum_by count rows ≡ from + sum_by count (r ∷ rows) = omega (arith, more) in
    ap (λ ns. from ∷ ns) (begins_more count (from + count r) rows row ∙ ap (λ m. part_begins count (from + count r) rows ++ m ∷ []) n)

-- pairs of entries
pub pair_at : {A B : Type 0} (xs : List A) (ys : List B) (i : ℕ) (x : A) (y : B) → slice_get xs i ≡ Some x → slice_get ys i ≡ Some y → slice_get (zip xs ys) i ≡ Some (x, y)
pair_at [] ys i x y p q = absurd (none-some x p)
pair_at (a ∷ xs) [] i x y p q = absurd (none-some y q)
pair_at (a ∷ xs) (b ∷ ys) zero x y p q = cc (p, q)
pair_at (a ∷ xs) (b ∷ ys) (suc i) x y p q = pair_at xs ys i x y p q

pub pair_past : {A B : Type 0} (xs : List A) (ys : List B) (i : ℕ) → slice_get xs i ≡ None → slice_get (zip xs ys) i ≡ None
pair_past [] ys i p = refl
pair_past (a ∷ xs) [] i p = refl
pair_past (a ∷ xs) (b ∷ ys) zero p = absurd (none-some a (sym p))
pair_past (a ∷ xs) (b ∷ ys) (suc i) p = pair_past xs ys i p

pub pairs_long : {A B : Type 0} (xs : List A) (ys : List B) → length ys ≡ length xs → length (zip xs ys) ≡ length xs
pairs_long [] ys long = refl
pairs_long (a ∷ xs) [] long = absurd (omega (arith, long))
pairs_long (a ∷ xs) (b ∷ ys) long = ap suc (pairs_long xs ys (omega (arith, long)))
