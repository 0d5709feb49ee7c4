-- Reading entries one after another, as a loop does.
use Rattle.std.proofs.Common.{◌≡◌, ℕ, suc, ◌-◌, ◌+◌, ◌≤◌, ◌<◌, true, false, List, [], ◌∷◌, ◌++◌, length, Some, None, Result, Ok, Err, refl, sym, ap, ◌∙◌, arith, length-append}
use Rattle.std.specs.Prelude.{slice_get}
use Rattle.std.proofs.lemmas.List.{append-nil}
use Rattle.grain_format.specs.declared.error.FieldFault.TheVariants.{KeyOrder}
use Rattle.grain_format.specs.declared.error.Stop.{Stop}
use Rattle.grain_format.specs.declared.error.Stop.TheVariants as stop
use Rattle.grain_format.specs.Reading.{LocatedFault, Stops}
use Rattle.grain_format.specs.Numbers.{number_at}
use Rattle.grain_format.specs.Texts.{text_at}
use Rattle.grain_format.specs.Form.{Form, comes_after, last_key}
use Rattle.grain_format.specs.FormAt.{entries_at, counted_entries_at}
use Rattle.grain_format.proofs.FieldLoop.{with_front, regroup}

got : (front : List (List ℕ × Form)) (e : List ℕ × Form) → slice_get (front ++ e ∷ []) (length front) ≡ Some e
got [] e = refl
got (f ∷ front) e = got front e

pub last_key-push : (front : List (List ℕ × Form)) (e : List ℕ × Form) → last_key (front ++ e ∷ []) ≡ Some e.0
last_key-push front e =
    let n : length (front ++ e ∷ []) - 1 ≡ length front = omega (arith, length-append front (e ∷ [])) in
    rw (n, got front e) refl

module _ (value : List ℕ → Result (Form × List ℕ) LocatedFault) where
  one_more : (count i : ℕ) → i < count → count - i ≡ suc (count - (i + 1))
  one_more count i lt = omega arith

  pub key_ends : (e : Stop) (left whole : List ℕ) (front : List (List ℕ × Form)) (count i : ℕ) (start bytes : List ℕ) → number_at whole ≡ Ok (count, start) → i < count
      → Stops e left (text_at bytes) → with_front front (entries_at value (count - i) (last_key front) bytes) ≡ entries_at value count None start → Stops e left (counted_entries_at value whole)
  unfolding entries_at
  key_ends stop.OutOfMemory left whole front count i start bytes h lt stops so_far = tt
  key_ends (stop.FieldFault f) left whole front count i start bytes h lt stops so_far =
      let one : with_front front (entries_at value (count - i) (last_key front) bytes) ≡ Err (f, left) = rw (one_more count i lt, stops) refl in
      rw h (sym so_far ∙ one)

  pub order_ends : (whole key mid : List ℕ) (front : List (List ℕ × Form)) (count i : ℕ) (start bytes : List ℕ) → number_at whole ≡ Ok (count, start) → i < count
      → text_at bytes ≡ Ok (key, mid) → comes_after (last_key front) key ≡ false → with_front front (entries_at value (count - i) (last_key front) bytes) ≡ entries_at value count None start
      → counted_entries_at value whole ≡ Err (KeyOrder, bytes)
  unfolding entries_at
  order_ends whole key mid front count i start bytes h lt t early so_far =
      let one : with_front front (entries_at value (count - i) (last_key front) bytes) ≡ Err (KeyOrder, bytes) = rw (one_more count i lt, t, early) refl in
      rw h (sym so_far ∙ one)

  pub value_ends : (e : Stop) (left whole key mid : List ℕ) (front : List (List ℕ × Form)) (count i : ℕ) (start bytes : List ℕ) → number_at whole ≡ Ok (count, start) → i < count
      → text_at bytes ≡ Ok (key, mid) → comes_after (last_key front) key ≡ true → Stops e left (value mid) → with_front front (entries_at value (count - i) (last_key front) bytes) ≡ entries_at value count None start
      → Stops e left (counted_entries_at value whole)
  unfolding entries_at
  value_ends stop.OutOfMemory left whole key mid front count i start bytes h lt t later stops so_far = tt
  value_ends (stop.FieldFault f) left whole key mid front count i start bytes h lt t later stops so_far =
      let one : with_front front (entries_at value (count - i) (last_key front) bytes) ≡ Err (f, left) = rw (one_more count i lt, t, later, stops) refl in
      rw h (sym so_far ∙ one)

  pub entry_goes_on : (key mid after : List ℕ) (x : Form) (front : List (List ℕ × Form)) (count i : ℕ) (bytes : List ℕ) (total : Result (List (List ℕ × Form) × List ℕ) LocatedFault) → i < count
      → text_at bytes ≡ Ok (key, mid) → comes_after (last_key front) key ≡ true → value mid ≡ Ok (x, after) → with_front front (entries_at value (count - i) (last_key front) bytes) ≡ total
      → with_front (front ++ (key, x) ∷ []) (entries_at value (count - (i + 1)) (last_key (front ++ (key, x) ∷ [])) after) ≡ total
  unfolding entries_at
  entry_goes_on key mid after x front count i bytes total lt t later v so_far =
      let one : with_front front (entries_at value (count - i) (last_key front) bytes) ≡ with_front (front ++ (key, x) ∷ []) (entries_at value (count - (i + 1)) (Some key) after) =
      rw (one_more count i lt, t, later, v) (regroup front (key, x) (entries_at value (count - (i + 1)) (Some key) after)) in
      rw (last_key-push front (key, x)) (sym one ∙ so_far)

  pub entries_done : (whole : List ℕ) (front : List (List ℕ × Form)) (count i : ℕ) (start bytes : List ℕ) → number_at whole ≡ Ok (count, start) → count ≤ i
      → with_front front (entries_at value (count - i) (last_key front) bytes) ≡ entries_at value count None start → counted_entries_at value whole ≡ Ok (front, bytes)
  unfolding entries_at
  entries_done whole front count i start bytes h le so_far =
      let k : count - i ≡ 0 = omega arith in
      let one : with_front front (entries_at value (count - i) (last_key front) bytes) ≡ Ok (front, bytes) = rw k (ap (λ (xs : List (List ℕ × Form)). Ok (xs, bytes)) (append-nil front)) in
      rw h (sym so_far ∙ one)
