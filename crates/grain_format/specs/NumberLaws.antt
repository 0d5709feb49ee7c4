-- A number that is read is spelled so, and one that is spelled is read.
use Rattle.std.proofs.Common.{◌≡◌, ℕ, zero, suc, ◌+◌, ◌-◌, ◌*◌, ◌/◌, ◌%◌, ◌^◌, ◌<◌, ◌≤◌, true, false, cond, ltb, eqb, List, [], ◌∷◌, ◌++◌, Result, Ok, Err, refl, ap, subst, arith, inl, inr, pow-suc}
use Rattle.std.proofs.lemmas.Bool.{ltb-true, ltb-false, lt-ltb, le-ltb, eqb-false, ne_eqb, cases_lt}
use Rattle.grain_format.specs.declared.error.FieldFault.{FieldFault}
use Rattle.grain_format.specs.declared.error.FieldFault.TheVariants.{TooWide, NotShortest}
use Rattle.grain_format.specs.Reading.{LocatedFault, AreBytes, Takes, Again}
use Rattle.grain_format.specs.Numbers.{groups, number, behind, groups_at, located, number_at, below_at}
use Rattle.grain_format.specs.Laws.{bind_ok, chosen, ok_is, tail_are_bytes}

abbrev Spelled : ℕ → List ℕ → ℕ × List ℕ → Type 0
Spelled more bytes p = (bytes ≡ groups more p.0 ++ p.1) × (p.0 < 2 ^ 64)

-- one group
one_group : (more byte : ℕ) (rest : List ℕ) → byte < 128 → Spelled more (byte ∷ rest) (byte, rest)
unfolding groups
one_group zero byte rest lt = (let same : byte ≡ byte % 128 = omega arith in ap (λ (b : ℕ). b ∷ rest) same, omega arith)
one_group (suc more) byte rest lt = (rw (lt-ltb byte 128 lt) refl, omega arith)

behind_ok : (byte : ℕ) (r : Result (ℕ × List ℕ) FieldFault) (y : ℕ × List ℕ) → behind byte r ≡ Ok y
    → (high : ℕ × List ℕ) × (r ≡ Ok high) × (0 < high.0) × (high.0 < 2 ^ 57) × ((128 * high.0 + (byte - 128), high.1) ≡ y)
behind_ok byte (Err fault) y e = absurd cc
behind_ok byte (Ok high) y e =
    elim (chosen (eqb high.0 0) (Err NotShortest) (cond (ltb high.0 (2 ^ 57)) (Ok (128 * high.0 + (byte - 128), high.1)) (Err TooWide)) (Ok y) e) [
      | inl p ↦ absurd (let q = p.1 in cc)
      | inr p ↦ elim (chosen (ltb high.0 (2 ^ 57)) (Ok (128 * high.0 + (byte - 128), high.1)) (Err TooWide) (Ok y) p.1) [
        | inl q ↦ (high, refl, (let nz = eqb-false high.0 0 p.0 in omega arith), ltb-true high.0 (2 ^ 57) q.0, ok_is {E = FieldFault} _ _ q.1)
        | inr q ↦ absurd (let r = q.1 in cc)
      ]
    ]

more_groups : (more byte high : ℕ) (tail rest : List ℕ) → 128 ≤ byte → byte < 256 → 0 < high → high < 2 ^ 57 → tail ≡ groups more high ++ rest
    → Spelled (suc more) (byte ∷ tail) (128 * high + (byte - 128), rest)
unfolding groups
more_groups more byte high tail rest le lt some small e =
    let big : ltb (128 * high + (byte - 128)) 128 ≡ false = le-ltb _ _ (omega arith) in
    let low : (128 * high + (byte - 128)) % 128 + 128 ≡ byte = omega arith in
    let top : (128 * high + (byte - 128)) / 128 ≡ high = omega arith in
    (rw (big, low, top, e) refl, omega arith)

pub groups_takes : (more : ℕ) (bytes : List ℕ) (p : ℕ × List ℕ) → AreBytes bytes → groups_at more bytes ≡ Ok p → Spelled more bytes p
unfolding groups_at
groups_takes zero [] p are e = absurd cc
groups_takes zero (byte ∷ rest) p are e =
    elim (chosen (ltb byte 128) (Ok (byte, rest)) (Err TooWide) (Ok p) e) [
      | inl q ↦ subst (λ (x : ℕ × List ℕ). Spelled zero (byte ∷ rest) x) (ok_is {E = FieldFault} (byte, rest) p q.1) (one_group zero byte rest (ltb-true byte 128 q.0))
      | inr q ↦ absurd (let r = q.1 in cc)
    ]
groups_takes (suc more) [] p are e = absurd cc
groups_takes (suc more) (byte ∷ rest) p are e =
    elim (chosen (ltb byte 128) (Ok (byte, rest)) (behind byte (groups_at more rest)) (Ok p) e) [
      | inl q ↦ subst (λ (x : ℕ × List ℕ). Spelled (suc more) (byte ∷ rest) x) (ok_is {E = FieldFault} (byte, rest) p q.1) (one_group (suc more) byte rest (ltb-true byte 128 q.0))
      | inr q ↦
          let h = behind_ok byte (groups_at more rest) p q.1 in
          let t = groups_takes more rest h.0 (tail_are_bytes byte rest are) h.1 in
          subst (λ (x : ℕ × List ℕ). Spelled (suc more) (byte ∷ rest) x) h.4
          (more_groups more byte h.0.0 rest h.0.1 (ltb-false byte 128 q.0) (are.each 0) h.2 h.3 t.0)
    ]

pub groups_again : (more n : ℕ) (rest : List ℕ) → n < 2 ^ 64 → n < 128 ^ (suc more) → groups_at more (groups more n ++ rest) ≡ Ok (n, rest)
unfolding groups groups_at
groups_again zero n rest small fits =
    let same : n % 128 ≡ n = omega arith in
    rw (same, lt-ltb n 128 (omega arith)) refl
groups_again (suc more) n rest small fits =
    elim (cases_lt n 128) [
      | inl lt ↦ rw (lt-ltb n 128 lt, lt-ltb n 128 lt) refl
      | inr le ↦
          let short : n / 128 < 128 ^ suc more = omega (arith, pow-suc 128 (suc more)) in
          let again = groups_again more (n / 128) rest (omega arith) short in
          let low : ltb (n % 128 + 128) 128 ≡ false = le-ltb _ _ (omega arith) in
          let some : eqb (n / 128) 0 ≡ false = ne_eqb _ _ (λ z. omega arith) in
          let high : ltb (n / 128) (2 ^ 57) ≡ true = lt-ltb _ _ (omega arith) in
          let whole : 128 * (n / 128) + (n % 128 + 128 - 128) ≡ n = omega arith in
          rw (le-ltb n 128 le, low, again, some, high, whole) refl
    ]

located_ok : {A : Type 0} (bytes : List ℕ) (r : Result A FieldFault) (x : A) → located bytes r ≡ Ok x → r ≡ Ok x
located_ok {A = A} bytes (Ok y) x e = ap (λ (z : A). Ok z) (ok_is {E = LocatedFault} y x e)
located_ok bytes (Err f) x e = absurd cc

pub number_takes : Takes number (λ n. n < 2 ^ 64) number_at
unfolding number number_at
number_takes bytes n rest are e = groups_takes 9 bytes (n, rest) are (located_ok bytes (groups_at 9 bytes) (n, rest) e)

pub number_again : Again number (λ n. n < 2 ^ 64) number_at
unfolding number number_at
number_again n rest small = ap (λ (r : Result (ℕ × List ℕ) FieldFault). located (groups 9 n ++ rest) r) (groups_again 9 n rest small (omega arith))

abbrev pub IsBelow : ℕ → ℕ → Type 0
IsBelow limit n = (n < limit) × (n < 2 ^ 64)

pub below_takes : (limit : ℕ) → Takes number (IsBelow limit) (below_at limit)
unfolding below_at
below_takes limit bytes n rest are e =
    let b = bind_ok (number_at bytes) (λ m. cond (ltb m.0 limit) (Ok m) (Err (TooWide, bytes))) (n, rest) e in
    elim (chosen (ltb b.0.0 limit) (Ok b.0) (Err (TooWide, bytes)) (Ok (n, rest)) b.2) [
      | inl p ↦
          let t = number_takes bytes b.0.0 b.0.1 are b.1 in
          subst (λ (y : ℕ × List ℕ). (bytes ≡ number y.0 ++ y.1) × IsBelow limit y.0) (ok_is {E = LocatedFault} b.0 (n, rest) p.1) (t.0, (ltb-true b.0.0 limit p.0, t.1))
      | inr p ↦ absurd (let q = p.1 in cc)
    ]

pub below_again : (limit : ℕ) → Again number (IsBelow limit) (below_at limit)
unfolding below_at
below_again limit n rest fits = rw (number_again n rest fits.1, lt-ltb n limit fits.0) refl
