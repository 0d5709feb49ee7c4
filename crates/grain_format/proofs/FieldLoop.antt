-- Reading fields of one kind one after another, as a loop does; and what is appended piece by piece.
use Rattle.std.proofs.Common.{◌≡◌, ℕ, suc, ◌-◌, ◌+◌, ◌≤◌, ◌<◌, List, [], ◌∷◌, ◌++◌, Result, Ok, Err, refl, sym, ap, ◌∙◌, append_assoc, arith}
use Rattle.std.proofs.lemmas.List.{append-nil}
use Rattle.grain_format.specs.declared.error.Stop.{Stop}
use Rattle.grain_format.specs.declared.error.Stop.TheVariants as stop
use Rattle.grain_format.specs.Reading.{LocatedFault, ◌>>=◌, Stops}
use Rattle.grain_format.specs.Lists.{repeat_at, counted_at}
use Rattle.grain_format.specs.Numbers.{number_at}

-- what was read before, and what is still read
abbrev pub with_front : {A : Type 0} → List A → Result (List A × List ℕ) LocatedFault → Result (List A × List ℕ) LocatedFault
with_front front read = read >>= λ x. Ok (front ++ x.0, x.1)

pub none_before : {A : Type 0} (read : Result (List A × List ℕ) LocatedFault) → with_front [] read ≡ read
none_before (Ok x) = refl
none_before (Err f) = refl

pub regroup : {A : Type 0} (front : List A) (x : A) (read : Result (List A × List ℕ) LocatedFault) → with_front front (read >>= λ y. Ok (x ∷ y.0, y.1)) ≡ with_front (front ++ x ∷ []) read
regroup front x (Ok y) = ap (λ (xs : List _). Ok (xs, y.1)) (simp append_assoc)
regroup front x (Err f) = refl

module _ {A : Type 0} (reading : List ℕ → Result (A × List ℕ) LocatedFault) where
  pub goes_on : (front : List A) (count i : ℕ) (bytes : List ℕ) (x : A) (after : List ℕ) (total : Result (List A × List ℕ) LocatedFault) → i < count → reading bytes ≡ Ok (x, after)
      → with_front front (repeat_at reading (count - i) bytes) ≡ total → with_front (front ++ x ∷ []) (repeat_at reading (count - (i + 1)) after) ≡ total
  unfolding repeat_at
  goes_on front count i bytes x after total lt h so_far =
      let k : count - i ≡ suc (count - (i + 1)) = omega arith in
      let one : with_front front (repeat_at reading (count - i) bytes) ≡ with_front (front ++ x ∷ []) (repeat_at reading (count - (i + 1)) after) =
      rw (k, h) (regroup front x (repeat_at reading (count - (i + 1)) after)) in
      sym one ∙ so_far

  pub ends : (e : Stop) (left : List ℕ) (front : List A) (count i : ℕ) (bytes : List ℕ) (total : Result (List A × List ℕ) LocatedFault) → i < count → Stops e left (reading bytes)
      → with_front front (repeat_at reading (count - i) bytes) ≡ total → Stops e left total
  unfolding repeat_at
  ends stop.OutOfMemory left front count i bytes total lt h so_far = tt
  ends (stop.FieldFault f) left front count i bytes total lt h so_far =
      let k : count - i ≡ suc (count - (i + 1)) = omega arith in
      let one : with_front front (repeat_at reading (count - i) bytes) ≡ Err (f, left) = rw (k, h) refl in
      sym so_far ∙ one

  pub is_done : (front : List A) (count i : ℕ) (bytes : List ℕ) (total : Result (List A × List ℕ) LocatedFault) → count ≤ i → with_front front (repeat_at reading (count - i) bytes) ≡ total → total ≡ Ok (front, bytes)
  unfolding repeat_at
  is_done front count i bytes total le so_far =
      let k : count - i ≡ 0 = omega arith in
      let one : with_front front (repeat_at reading (count - i) bytes) ≡ Ok (front, bytes) = rw k (ap (λ (xs : List A). Ok (xs, bytes)) (append-nil front)) in
      sym so_far ∙ one

  -- the same behind the number of them
  pub counted_ends : (e : Stop) (left whole : List ℕ) (front : List A) (count i : ℕ) (start bytes : List ℕ) → number_at whole ≡ Ok (count, start) → i < count → Stops e left (reading bytes)
      → with_front front (repeat_at reading (count - i) bytes) ≡ repeat_at reading count start → Stops e left (counted_at reading whole)
  counted_ends e left whole front count i start bytes h lt stops so_far = rw h (ends e left front count i bytes (repeat_at reading count start) lt stops so_far)

  pub counted_done : (whole : List ℕ) (front : List A) (count i : ℕ) (start bytes : List ℕ) → number_at whole ≡ Ok (count, start) → count ≤ i
      → with_front front (repeat_at reading (count - i) bytes) ≡ repeat_at reading count start → counted_at reading whole ≡ Ok (front, bytes)
  counted_done whole front count i start bytes h le so_far = rw h (is_done front count i bytes (repeat_at reading count start) le so_far)

-- what stopped a step stops what would follow it
pub stopped : {A B : Type 0} (e : Stop) (left : List ℕ) (read : Result A LocatedFault) (more : A → Result B LocatedFault) → Stops e left read → Stops e left (read >>= more)
stopped stop.OutOfMemory left read more h = tt
stopped (stop.FieldFault f) left read more h = rw h refl
