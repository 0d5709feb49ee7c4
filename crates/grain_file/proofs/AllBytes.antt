-- All of the bytes are a value's exactly where they are read.
use Rattle.std.proofs.Common.{◌≡◌, ℕ, ◌+◌, ◌-◌, ◌≤◌, cond, eqb, List, [], ◌++◌, length, drop, Result, Ok, Err, refl, sym, ap, subst, ◌∙◌, arith, inl, inr, length-append}
use Rattle.std.specs.Prelude.{MatchResult, IfOk, IfErr}
use Rattle.std.proofs.lemmas.Bool.{eqb-true}
use Rattle.std.proofs.lemmas.List.{append-nil, drop_at, nil_from_length}
use Rattle.grain_format.specs.declared.error.FieldFault.TheVariants.{Trailing}
use Rattle.grain_file.specs.declared.file.Limits.{Limits}
use Rattle.grain_file.specs.declared.file.ReadError.{ReadError}
use Rattle.grain_file.specs.declared.file.ReadError.TheVariants as errors
use Rattle.grain_file.specs.Causes.{IsCauseIn, IsFaultIn}
use Rattle.grain_format.specs.Ends.{err_is, bind_err, at_whole, end_moved}
use Rattle.grain_format.specs.Formats.{Format, whole}
use Rattle.grain_format.specs.Laws.{bind_ok, chosen, ok_is}
use Rattle.grain_format.specs.Reading.{LocatedFault, AreBytes, Ends}

module _ {K : Type 0} (F : Format K) where
  abbrev pub Spells : List ℕ → K → Type 0
  Spells bytes k = (bytes ≡ F.spelling k) × F.Fits k

  pub all_found : (bytes : List ℕ) (k : K) (rest : List ℕ) → AreBytes bytes → whole F bytes ≡ Ok (k, rest) → Spells bytes k
  all_found bytes k rest are e =
      let a = bind_ok (F.reading bytes) (λ x. cond (eqb (length x.1) 0) (Ok x) (Err (Trailing, x.1))) (k, rest) e in
      elim (chosen (eqb (length a.0.1) 0) (Ok a.0) (Err (Trailing, a.0.1)) (Ok (k, rest)) a.2) [
        | inl p ↦
            let t = F.takes bytes a.0.0 a.0.1 are a.1 in
            let none : a.0.1 ≡ [] = nil_from_length a.0.1 (eqb-true (length a.0.1) 0 p.0) in
            let all : bytes ≡ F.spelling a.0.0 = t.0 ∙ ap (λ (r : List ℕ). F.spelling a.0.0 ++ r) none ∙ append-nil (F.spelling a.0.0) in
            subst (λ (y : K × List ℕ). Spells bytes y.0) (ok_is {E = LocatedFault} a.0 (k, rest) p.1) (all, t.1)
        | inr p ↦ absurd (let q = p.1 in cc)
      ]

  pub all_again : (bytes : List ℕ) (k : K) → Spells bytes k → whole F bytes ≡ Ok (k, [])
  all_again bytes k file =
      let again = F.again k [] file.1 in
      let e : bytes ≡ F.spelling k ++ [] = file.0 ∙ sym (append-nil (F.spelling k)) in
      rw (e, again) refl

  pub all_ends : Ends (whole F)
  all_ends bytes fault left are e =
      elim (bind_err (F.reading bytes) (λ x. cond (eqb (length x.1) 0) (Ok x) (Err (Trailing, x.1))) (fault, left) e) [
        | inl p ↦ F.ends bytes fault left are p
        | inr a ↦ elim (chosen (eqb (length a.0.1) 0) (Ok a.0) (Err (Trailing, a.0.1)) (Err (fault, left)) a.2) [
          | inl p ↦ absurd (let q = p.1 in cc)
          | inr p ↦
              let t = F.takes bytes a.0.0 a.0.1 are a.1 in
              end_moved bytes (F.spelling a.0.0) a.0.1 left t.0 (at_whole a.0.1 Trailing fault left (err_is {A = K × List ℕ} {E = LocatedFault} (Trailing, a.0.1) (fault, left) p.1))
        ]
      ]

  pub one_spelling : (a b : List ℕ) (k : K) → Spells a k → Spells b k → a ≡ b
  one_spelling a b k p q = p.0 ∙ sym q.0

  pub one_value : (a : List ℕ) (k l : K) → Spells a k → Spells a l → k ≡ l
  one_value a k l p q = ap (λ (y : K × List ℕ). y.0) (ok_is {E = LocatedFault} (k, []) (l, []) (sym (all_again a k p) ∙ all_again a l q))

pub place_of_end : (bytes front left : List ℕ) (at : ℕ) → bytes ≡ front ++ left → at ≡ length bytes - length left → (at ≤ length bytes) × (drop at bytes ≡ left)
place_of_end bytes front left at e p =
    let total : length bytes ≡ length front + length left = ap length e ∙ length-append front left in
    let here : at ≡ length front = omega arith in
    (omega arith, rw (here, e) (drop_at front left (length front) refl))

-- what was read, where reading is of all the bytes
module _ {K P : Type 0} (F : Format K) (view : P → K) (limits : Limits) (bytes : List ℕ) where
  abbrev pub Given : Result P ReadError → Type 0
  Given r = MatchResult r (λ p. whole F bytes ≡ Ok (view p, [])) (IsFaultIn (whole F) bytes)

  pub result_found : (r : Result P ReadError) → AreBytes bytes → Given r → IfOk r (λ p. Spells F bytes (view p))
  result_found (Ok p) are given = all_found F bytes (view p) [] are given
  result_found (Err e) are given = tt

  pub result_only : (r : Result P ReadError) → Given r → (k : K) → Spells F bytes k → MatchResult r (λ p. view p ≡ k) (λ e. e ≡ errors.OutOfMemory)
  result_only (Ok p) given k file = ap (λ (y : K × List ℕ). y.0) (ok_is {E = LocatedFault} (view p, []) (k, []) (sym given ∙ all_again F bytes k file))
  result_only (Err errors.OutOfMemory) given k file = refl
  result_only (Err (errors.TooLarge size limit)) given k file = absurd given
  result_only (Err (errors.DepthLimit depth)) given k file = absurd given
  result_only (Err (errors.Malformed at part fault)) given k file = absurd (let e = sym given.1 ∙ all_again F bytes k file in cc)

  pub result_exact : (r : Result P ReadError) → AreBytes bytes → Given r → IfErr r (IsCauseIn (whole F) limits bytes)
  result_exact (Ok p) are given = tt
  result_exact (Err errors.OutOfMemory) are given = tt
  result_exact (Err (errors.TooLarge size limit)) are given = absurd given
  result_exact (Err (errors.DepthLimit depth)) are given = absurd given
  result_exact (Err (errors.Malformed at part fault)) are given =
      let end = all_ends F bytes fault given.0 are given.1 in
      let d = place_of_end bytes end.front given.0 at end.is given.2 in
      (d.0, rw d.1 given.1)
