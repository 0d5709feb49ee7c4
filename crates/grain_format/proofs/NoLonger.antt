-- Values that fit where another fits, and are spelled no longer. Such parts make such a whole.
use Rattle.std.proofs.Common.{◌≡◌, ℕ, zero, suc, ◌/◌, ◌≤◌, inl, inr, List, [], ◌∷◌, ◌++◌, length, Option, None, Some, refl, subst, arith}
use Rattle.std.specs.List.{AllByRecursion, AllZip, flat_map}
use Rattle.std.proofs.lemmas.Bool.{lt-ltb, le-ltb, cases_lt}
use Rattle.std.proofs.lemmas.List.{length-append}
use Rattle.std.proofs.lemmas.List.Concat.{flat_map-cons}
use Rattle.grain_format.specs.declared.error.FieldFault.{FieldFault}
use Rattle.grain_format.specs.Formats.{Format, both, counted_list, depending, headed, number_below, optional}
use Rattle.grain_format.specs.Numbers.{groups, number}

-- if the one value fits, so does the other, and its encoding has no more bytes
pub record NoLonger {A : Type 0} (F : Format A) (old new : A) : Type 0 where
  pub fits : F.Fits old → F.Fits new
  pub short : length (F.spelling new) ≤ length (F.spelling old)

pub same : {A : Type 0} (F : Format A) (old new : A) → new ≡ old → NoLonger F old new
same F old new e = subst (NoLonger F old) (let back : old ≡ new = cc in back) (record { fits = λ fits. fits; short = omega arith })

-- ---- numbers

some_groups : (more n : ℕ) → 1 ≤ length (groups more n)
unfolding groups
some_groups zero n = omega arith
some_groups (suc more) n = elim (cases_lt n 128) [
  | inl small ↦ rw (lt-ltb n 128 small) (omega arith)
  | inr large ↦ rw (le-ltb n 128 large) (omega arith)
]

groups_short : (more m n : ℕ) → m ≤ n → length (groups more m) ≤ length (groups more n)
unfolding groups
groups_short zero m n le = omega arith
groups_short (suc more) m n le = elim (cases_lt m 128) [
  | inl small ↦ rw (lt-ltb m 128 small) (let some = some_groups (suc more) n in some)
  | inr large ↦
      let inner = groups_short more (m / 128) (n / 128) (omega arith) in
      rw (le-ltb m 128 large, le-ltb n 128 (omega arith)) (omega (arith, inner))
]

pub number_short : (m n : ℕ) → m ≤ n → length (number m) ≤ length (number n)
unfolding number
number_short m n le = groups_short 9 m n le

pub smaller : (limit old new : ℕ) → new ≤ old → NoLonger (number_below limit) old new
smaller limit old new le = record { fits = λ fits. (omega (arith, fits.0), omega (arith, fits.1)); short = number_short new old le }

-- ---- fields one after another

appended : (a b c d : List ℕ) → length a ≤ length c → length b ≤ length d → length (a ++ b) ≤ length (c ++ d)
appended a b c d first second = omega (arith, length-append a b, length-append c d)

module _ {A B : Type 0} where
  pub both_no_longer : (F : Format A) (G : Format B) (a c : A) (b d : B) → NoLonger F a c → NoLonger G b d → NoLonger (both F G) (a, b) (c, d)
  both_no_longer F G a c b d first second = record {
    fits = λ fits. (first.fits fits.0, second.fits fits.1);
    short = appended (F.spelling c) (G.spelling d) (F.spelling a) (G.spelling b) first.short second.short;
  }

  pub depending_no_longer : (F : Format A) (G : A → Format B) (a : A) (b d : B) → NoLonger (G a) b d → NoLonger (depending F G) (a, b) (a, d)
  depending_no_longer F G a b d second = record {
    fits = λ fits. (fits.0, second.fits fits.1);
    short = appended (F.spelling a) ((G a).spelling d) (F.spelling a) ((G a).spelling b) (omega arith) second.short;
  }

module _ {A : Type 0} (F : Format A) where
  pub headed_no_longer : (tag : ℕ) (fault : FieldFault) (old new : A) → NoLonger F old new → NoLonger (headed tag fault F) old new
  headed_no_longer tag fault old new h = record { fits = h.fits; short = let short = h.short in omega arith }

  pub none_no_longer : (old : Option A) → NoLonger (optional F) old None
  none_no_longer None = same (optional F) None None refl
  none_no_longer (Some x) = record { fits = λ fits. tt; short = omega arith }

  each_fits : (old new : List A) → AllZip (NoLonger F) old new → AllByRecursion F.Fits old → AllByRecursion F.Fits new
  each_fits [] [] each fits = tt
  each_fits [] (y ∷ ys) each fits = absurd each
  each_fits (x ∷ xs) [] each fits = absurd each
  each_fits (x ∷ xs) (y ∷ ys) each fits = (each.0.fits fits.0, each_fits xs ys each.1 fits.1)

  as_many : (old new : List A) → AllZip (NoLonger F) old new → length new ≡ length old
  as_many [] [] each = refl
  as_many [] (y ∷ ys) each = absurd each
  as_many (x ∷ xs) [] each = absurd each
  as_many (x ∷ xs) (y ∷ ys) each = let rest = as_many xs ys each.1 in omega arith

  all_short : (old new : List A) → AllZip (NoLonger F) old new → length (flat_map F.spelling new) ≤ length (flat_map F.spelling old)
  all_short [] [] each = omega arith
  all_short [] (y ∷ ys) each = absurd each
  all_short (x ∷ xs) [] each = absurd each
  all_short (x ∷ xs) (y ∷ ys) each =
      rw (flat_map-cons F.spelling x xs, flat_map-cons F.spelling y ys)
      (appended (F.spelling y) (flat_map F.spelling ys) (F.spelling x) (flat_map F.spelling xs) each.0.short (all_short xs ys each.1))

  -- as many, each no longer
  pub list_no_longer : (old new : List A) → AllZip (NoLonger F) old new → NoLonger (counted_list F) old new
  list_no_longer old new each =
      let count = as_many old new each in
      record {
        fits = λ fits. (let few = fits.0 in omega arith, each_fits old new each fits.1);
        short = appended (number (length new)) (flat_map F.spelling new) (number (length old)) (flat_map F.spelling old) (number_short (length new) (length old) (omega arith)) (all_short old new each);
      }
