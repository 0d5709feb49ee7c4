-- The same two laws of fields one after another.
use Rattle.std.proofs.Common.{◌≡◌, ℕ, zero, suc, List, [], ◌∷◌, ◌++◌, length, Option, Some, None, Result, Ok, Err, refl, sym, ap, subst, ◌∙◌, append_assoc, Bool, true, cond, eqb, inl, inr, ◌⊎◌}
use Rattle.std.specs.Prelude.{IfSome}
use Rattle.std.proofs.lemmas.Bool.{eqb-true, eq-eqb}
use Rattle.std.specs.List.{flat_map, AllByRecursion}
use Rattle.grain_format.specs.declared.error.FieldFault.{FieldFault}
use Rattle.grain_format.specs.Reading.{LocatedFault, ◌>>=◌, AreBytes, Takes, Again}
use Rattle.grain_format.specs.Numbers.{number, number_at}
use Rattle.grain_format.specs.Lists.{both_spelling, BothFit, both_at, depending_spelling, DependingFit, depending_at, checked_at, seen_at, repeat_at, counted_spelling, CountedFit, counted_at, optional_spelling, optional_at, alternative_spelling, AlternativeFits, alternative_at, BeginsOtherwise, headed_at}
use Rattle.grain_format.specs.Laws.{bind_ok, chosen, ok_is, rest_are_bytes, tail_are_bytes}
use Rattle.grain_format.specs.NumberLaws.{number_takes, number_again}

-- what is left behind a field are bytes
pub left_are_bytes : (bytes front rest : List ℕ) → AreBytes bytes → bytes ≡ front ++ rest → AreBytes rest
left_are_bytes bytes front rest are e = rest_are_bytes front rest (subst (λ (b : List ℕ). AreBytes b) e are)

pub regroup : (bytes x mid y rest : List ℕ) → bytes ≡ x ++ mid → mid ≡ y ++ rest → bytes ≡ (x ++ y) ++ rest
regroup bytes x mid y rest e f = e ∙ ap (λ (t : List ℕ). x ++ t) f ∙ sym (append_assoc x y rest)

module _ {A B : Type 0} (first : A → List ℕ) (First : A → Type 0) (first_at : List ℕ → Result (A × List ℕ) LocatedFault)
    (second : A → B → List ℕ) (Second : A → B → Type 0) (second_at : A → List ℕ → Result (B × List ℕ) LocatedFault) where
  pub depending_takes : Takes first First first_at → ((x : A) → Takes (second x) (Second x) (second_at x)) → Takes (depending_spelling first second) (DependingFit First Second) (depending_at first_at second_at)
  depending_takes take_first take_second bytes p rest are e =
      let a = bind_ok (first_at bytes) (λ a. (second_at a.0 a.1 >>= λ b. Ok ((a.0, b.0), b.1))) (p, rest) e in
      let b = bind_ok (second_at a.0.0 a.0.1) (λ b. Ok ((a.0.0, b.0), b.1)) (p, rest) a.2 in
      let t = take_first bytes a.0.0 a.0.1 are a.1 in
      let u = take_second a.0.0 a.0.1 b.0.0 b.0.1 (left_are_bytes bytes (first a.0.0) a.0.1 are t.0) b.1 in
      subst (λ (y : (A × B) × List ℕ). (bytes ≡ depending_spelling first second y.0 ++ y.1) × DependingFit First Second y.0)
      (ok_is {E = LocatedFault} ((a.0.0, b.0.0), b.0.1) (p, rest) b.2)
      (regroup bytes (first a.0.0) a.0.1 (second a.0.0 b.0.0) b.0.1 t.0 u.0, (t.1, u.1))

  pub depending_again : Again first First first_at → ((x : A) → Again (second x) (Second x) (second_at x)) → Again (depending_spelling first second) (DependingFit First Second) (depending_at first_at second_at)
  depending_again again_first again_second p rest fits =
      rw (append_assoc (first p.0) (second p.0 p.1) rest, again_first p.0 (second p.0 p.1 ++ rest) fits.0, again_second p.0 p.1 rest fits.1) refl

module _ {A B : Type 0} (first : A → List ℕ) (First : A → Type 0) (first_at : List ℕ → Result (A × List ℕ) LocatedFault)
    (second : B → List ℕ) (Second : B → Type 0) (second_at : List ℕ → Result (B × List ℕ) LocatedFault) where
  pub both_takes : Takes first First first_at → Takes second Second second_at → Takes (both_spelling first second) (BothFit First Second) (both_at first_at second_at)
  both_takes take_first take_second = depending_takes first First first_at (λ x. second) (λ x. Second) (λ x. second_at) take_first (λ x. take_second)

  pub both_again : Again first First first_at → Again second Second second_at → Again (both_spelling first second) (BothFit First Second) (both_at first_at second_at)
  both_again again_first again_second = depending_again first First first_at (λ x. second) (λ x. Second) (λ x. second_at) again_first (λ x. again_second)

module _ {A B : Type 0} (to : A → B) (from : B → A) (spelling : A → List ℕ) (Fits : A → Type 0) (reading : List ℕ → Result (A × List ℕ) LocatedFault) where
  pub seen_takes : ((a : A) → from (to a) ≡ a) → Takes spelling Fits reading → Takes (λ b. spelling (from b)) (λ b. Fits (from b)) (seen_at to reading)
  seen_takes there takes bytes x rest are e =
      let a = bind_ok (reading bytes) (λ a. Ok (to a.0, a.1)) (x, rest) e in
      let t = takes bytes a.0.0 a.0.1 are a.1 in
      let back = sym (there a.0.0) in
      subst (λ (y : B × List ℕ). (bytes ≡ spelling (from y.0) ++ y.1) × Fits (from y.0)) (ok_is {E = LocatedFault} (to a.0.0, a.0.1) (x, rest) a.2)
      (subst (λ (v : A). (bytes ≡ spelling v ++ a.0.1) × Fits v) back t)

  pub seen_again : ((b : B) → to (from b) ≡ b) → Again spelling Fits reading → Again (λ b. spelling (from b)) (λ b. Fits (from b)) (seen_at to reading)
  seen_again back again b rest fits = rw (again (from b) rest fits, back b) refl

module _ {A : Type 0} (spelling : A → List ℕ) (Fits : A → Type 0) (reading : List ℕ → Result (A × List ℕ) LocatedFault) where
  pub repeat_takes : Takes spelling Fits reading → (n : ℕ) (bytes : List ℕ) (xs : List A) (rest : List ℕ) → AreBytes bytes → repeat_at reading n bytes ≡ Ok (xs, rest)
      → (bytes ≡ flat_map spelling xs ++ rest) × (AllByRecursion Fits xs × (length xs ≡ n))
  unfolding repeat_at
  repeat_takes takes zero bytes xs rest are e =
      subst (λ (y : List A × List ℕ). (bytes ≡ flat_map spelling y.0 ++ y.1) × (AllByRecursion Fits y.0 × (length y.0 ≡ zero))) (ok_is {E = LocatedFault} ([], bytes) (xs, rest) e) (refl, (tt, refl))
  repeat_takes takes (suc n) bytes xs rest are e =
      let a = bind_ok (reading bytes) (λ x. (repeat_at reading n x.1 >>= λ more. Ok (x.0 ∷ more.0, more.1))) (xs, rest) e in
      let b = bind_ok (repeat_at reading n a.0.1) (λ more. Ok (a.0.0 ∷ more.0, more.1)) (xs, rest) a.2 in
      let t = takes bytes a.0.0 a.0.1 are a.1 in
      let u = repeat_takes takes n a.0.1 b.0.0 b.0.1 (left_are_bytes bytes (spelling a.0.0) a.0.1 are t.0) b.1 in
      subst (λ (y : List A × List ℕ). (bytes ≡ flat_map spelling y.0 ++ y.1) × (AllByRecursion Fits y.0 × (length y.0 ≡ suc n)))
      (ok_is {E = LocatedFault} (a.0.0 ∷ b.0.0, b.0.1) (xs, rest) b.2)
      (regroup bytes (spelling a.0.0) a.0.1 (flat_map spelling b.0.0) b.0.1 t.0 u.0, ((t.1, u.1.0), ap suc u.1.1))

  pub repeat_again : Again spelling Fits reading → (xs : List A) (rest : List ℕ) → AllByRecursion Fits xs → repeat_at reading (length xs) (flat_map spelling xs ++ rest) ≡ Ok (xs, rest)
  unfolding repeat_at
  repeat_again again [] rest fits = refl
  repeat_again again (x ∷ xs) rest fits =
      rw (append_assoc (spelling x) (flat_map spelling xs) rest, again x (flat_map spelling xs ++ rest) fits.0, repeat_again again xs rest fits.1) refl

  pub counted_takes : Takes spelling Fits reading → Takes (counted_spelling spelling) (CountedFit Fits) (counted_at reading)
  counted_takes takes bytes xs rest are e =
      let a = bind_ok (number_at bytes) (λ n. repeat_at reading n.0 n.1) (xs, rest) e in
      let t = number_takes bytes a.0.0 a.0.1 are a.1 in
      let u = repeat_takes takes a.0.0 a.0.1 xs rest (left_are_bytes bytes (number a.0.0) a.0.1 are t.0) a.2 in
      let counted : bytes ≡ number (length xs) ++ a.0.1 = rw u.1.1 t.0 in
      (regroup bytes (number (length xs)) a.0.1 (flat_map spelling xs) rest counted u.0, (rw u.1.1 t.1, u.1.0))

  pub counted_again : Again spelling Fits reading → Again (counted_spelling spelling) (CountedFit Fits) (counted_at reading)
  counted_again again xs rest fits =
      rw (append_assoc (number (length xs)) (flat_map spelling xs) rest, number_again (length xs) (flat_map spelling xs ++ rest) fits.0) (repeat_again again xs rest fits.1)

  pub optional_takes : Takes spelling Fits reading → Takes (optional_spelling spelling) (λ o. IfSome o Fits) (optional_at reading)
  optional_takes takes [] x rest are e = absurd cc
  optional_takes takes (zero ∷ bytes) x rest are e =
      subst (λ (y : Option A × List ℕ). (0 ∷ bytes ≡ optional_spelling spelling y.0 ++ y.1) × IfSome y.0 Fits) (ok_is {E = LocatedFault} (None, bytes) (x, rest) e) (refl, tt)
  optional_takes takes (suc zero ∷ bytes) x rest are e =
      let a = bind_ok (reading bytes) (λ v. Ok (Some v.0, v.1)) (x, rest) e in
      let t = takes bytes a.0.0 a.0.1 (tail_are_bytes 1 bytes are) a.1 in
      subst (λ (y : Option A × List ℕ). (1 ∷ bytes ≡ optional_spelling spelling y.0 ++ y.1) × IfSome y.0 Fits) (ok_is {E = LocatedFault} (Some a.0.0, a.0.1) (x, rest) a.2)
      (ap (λ (b : List ℕ). 1 ∷ b) t.0, t.1)
  optional_takes takes (suc (suc b) ∷ bytes) x rest are e = absurd cc

  pub optional_again : Again spelling Fits reading → Again (optional_spelling spelling) (λ o. IfSome o Fits) (optional_at reading)
  optional_again again None rest fits = refl
  optional_again again (Some x) rest fits = rw (again x rest fits) refl

module _ {A : Type 0} (spelling : A → List ℕ) (Fits : A → Type 0) (reading : List ℕ → Result (A × List ℕ) LocatedFault) (test : A → Bool) (fault : FieldFault) where
  pub checked_takes : Takes spelling Fits reading → Takes spelling (λ x. Fits x × (test x ≡ true)) (checked_at test fault reading)
  checked_takes takes bytes x rest are e =
      let a = bind_ok (reading bytes) (λ y. cond (test y.0) (Ok y) (Err (fault, bytes))) (x, rest) e in
      elim (chosen (test a.0.0) (Ok a.0) (Err (fault, bytes)) (Ok (x, rest)) a.2) [
        | inl p ↦
            let t = takes bytes a.0.0 a.0.1 are a.1 in
            subst (λ (y : A × List ℕ). (bytes ≡ spelling y.0 ++ y.1) × (Fits y.0 × (test y.0 ≡ true))) (ok_is {E = LocatedFault} a.0 (x, rest) p.1) (t.0, (t.1, p.0))
        | inr p ↦ absurd (let q = p.1 in cc)
      ]

  pub checked_again : Again spelling Fits reading → Again spelling (λ x. Fits x × (test x ≡ true)) (checked_at test fault reading)
  checked_again again x rest fits = rw (again x rest fits.0, fits.1) refl

module _ {A B : Type 0} (tag : ℕ) (first : A → List ℕ) (First : A → Type 0) (first_at : List ℕ → Result (A × List ℕ) LocatedFault)
    (second : B → List ℕ) (Second : B → Type 0) (second_at : List ℕ → Result (B × List ℕ) LocatedFault) where
  abbrev Alternated : List ℕ → (A ⊎ B) × List ℕ → Type 0
  Alternated bytes y = (bytes ≡ alternative_spelling tag first second y.0 ++ y.1) × AlternativeFits First Second y.0

  pub alternative_takes : Takes first First first_at → Takes second Second second_at → Takes (alternative_spelling tag first second) (AlternativeFits First Second) (alternative_at tag first_at second_at)
  alternative_takes take_first take_second [] x rest are e = absurd cc
  alternative_takes take_first take_second (b ∷ bytes) x rest are e =
      elim (chosen (eqb b tag) (seen_at inl first_at bytes) (seen_at inr second_at (b ∷ bytes)) (Ok (x, rest)) e) [
        | inl p ↦
            let a = bind_ok (first_at bytes) (λ v. Ok (inl v.0, v.1)) (x, rest) p.1 in
            let t = take_first bytes a.0.0 a.0.1 (tail_are_bytes b bytes are) a.1 in
            let is : b ≡ tag = eqb-true b tag p.0 in
            subst (Alternated (b ∷ bytes)) (ok_is {E = LocatedFault} (inl a.0.0, a.0.1) (x, rest) a.2)
            (ap (λ (c : ℕ). c ∷ bytes) is ∙ ap (λ (bs : List ℕ). tag ∷ bs) t.0, t.1)
        | inr p ↦
            let a = bind_ok (second_at (b ∷ bytes)) (λ v. Ok (inr v.0, v.1)) (x, rest) p.1 in
            let t = take_second (b ∷ bytes) a.0.0 a.0.1 are a.1 in
            subst (Alternated (b ∷ bytes)) (ok_is {E = LocatedFault} (inr a.0.0, a.0.1) (x, rest) a.2) t
      ]

  other_is_read : (y : B) (rest bytes : List ℕ) → BeginsOtherwise tag bytes → second_at bytes ≡ Ok (y, rest) → alternative_at tag first_at second_at bytes ≡ Ok (inr y, rest)
  other_is_read y rest [] other e = absurd other
  other_is_read y rest (b ∷ bytes) other e = rw (other, e) refl

  pub alternative_again : ((y : B) (rest : List ℕ) → Second y → BeginsOtherwise tag (second y ++ rest)) → Again first First first_at → Again second Second second_at → Again (alternative_spelling tag first second) (AlternativeFits First Second) (alternative_at tag first_at second_at)
  alternative_again apart again_first again_second (inl x) rest fits = rw (eq-eqb tag tag refl, again_first x rest fits) refl
  alternative_again apart again_first again_second (inr y) rest fits = other_is_read y rest (second y ++ rest) (apart y rest fits) (again_second y rest fits)

module _ {A : Type 0} (tag : ℕ) (fault : FieldFault) (spelling : A → List ℕ) (Fits : A → Type 0) (reading : List ℕ → Result (A × List ℕ) LocatedFault) where
  pub headed_takes : Takes spelling Fits reading → Takes (λ x. tag ∷ spelling x) Fits (headed_at tag fault reading)
  headed_takes takes [] x rest are e = absurd cc
  headed_takes takes (b ∷ bytes) x rest are e =
      elim (chosen (eqb b tag) (reading bytes) (Err (fault, b ∷ bytes)) (Ok (x, rest)) e) [
        | inl p ↦
            let t = takes bytes x rest (tail_are_bytes b bytes are) p.1 in
            (ap (λ (c : ℕ). c ∷ bytes) (eqb-true b tag p.0) ∙ ap (λ (bs : List ℕ). tag ∷ bs) t.0, t.1)
        | inr p ↦ absurd (let q = p.1 in cc)
      ]

  pub headed_again : Again spelling Fits reading → Again (λ x. tag ∷ spelling x) Fits (headed_at tag fault reading)
  headed_again again x rest fits = rw (eq-eqb tag tag refl) (again x rest fits)
