-- Bytes and texts that are read are spelled so, and those that are spelled are read.
use Rattle.std.proofs.Common.{◌≡◌, ℕ, ◌^◌, ◌<◌, ◌≤◌, true, false, cond, ltb, eqb, List, [], ◌∷◌, ◌++◌, length, take, drop, Ok, Err, refl, sym, ap, subst, ◌∙◌, append_assoc, arith, inl, inr, length-append}
use Rattle.std.specs.Str.{is_utf8}
use Rattle.std.proofs.lemmas.Bool.{ltb-true, ltb-false, lt-ltb, le-ltb, eqb-true, eq-eqb}
use Rattle.std.proofs.lemmas.List.{take_at, drop_at, take-append-drop, length-take}
use Rattle.grain_format.specs.declared.error.FieldFault.{FieldFault}
use Rattle.grain_format.specs.declared.error.FieldFault.TheVariants.{Truncated, NotText, UnknownTag}
use Rattle.grain_format.specs.Reading.{LocatedFault, Takes, Again}
use Rattle.grain_format.specs.Numbers.{number, number_at}
use Rattle.grain_format.specs.Texts.{counted_bytes, byte_at, bytes_at, text_at, tag_at, expected_at}
use Rattle.grain_format.specs.Laws.{bind_ok, chosen, ok_is}
use Rattle.grain_format.specs.NumberLaws.{number_takes, number_again}

abbrev pub BytesFit : List ℕ → Type 0
BytesFit bytes = length bytes < 2 ^ 64

abbrev pub TextFits : List ℕ → Type 0
TextFits bytes = (length bytes < 2 ^ 64) × (is_utf8 bytes ≡ true)

cut : (n : ℕ) (bytes tail : List ℕ) → n < 2 ^ 64 → n ≤ length tail → bytes ≡ number n ++ tail
    → (bytes ≡ counted_bytes (take n tail) ++ drop n tail) × BytesFit (take n tail)
unfolding counted_bytes
cut n bytes tail small inside e =
    let len : length (take n tail) ≡ n = omega (arith, length-take n tail) in
    (rw len (e ∙ ap (λ (t : List ℕ). number n ++ t) (sym (take-append-drop n tail)) ∙ sym (append_assoc (number n) (take n tail) (drop n tail))), omega arith)

pub bytes_takes : Takes counted_bytes BytesFit bytes_at
unfolding bytes_at
bytes_takes bytes x rest are e =
    let b = bind_ok (number_at bytes) (λ n. cond (ltb (length n.1) n.0) (Err (Truncated, n.1)) (Ok (take n.0 n.1, drop n.0 n.1))) (x, rest) e in
    elim (chosen (ltb (length b.0.1) b.0.0) (Err (Truncated, b.0.1)) (Ok (take b.0.0 b.0.1, drop b.0.0 b.0.1)) (Ok (x, rest)) b.2) [
      | inl p ↦ absurd (let q = p.1 in cc)
      | inr p ↦
          let t = number_takes bytes b.0.0 b.0.1 are b.1 in
          subst (λ (y : List ℕ × List ℕ). (bytes ≡ counted_bytes y.0 ++ y.1) × BytesFit y.0) (ok_is {E = LocatedFault} (take b.0.0 b.0.1, drop b.0.0 b.0.1) (x, rest) p.1)
          (cut b.0.0 bytes b.0.1 t.1 (ltb-false _ _ p.0) t.0)
    ]

pub bytes_again : Again counted_bytes BytesFit bytes_at
unfolding counted_bytes bytes_at
bytes_again x rest fits =
    let long : ltb (length (x ++ rest)) (length x) ≡ false = le-ltb _ _ (omega (arith, length-append x rest)) in
    rw (append_assoc (number (length x)) x rest, number_again (length x) (x ++ rest) fits, long, take_at x rest (length x) refl, drop_at x rest (length x) refl) refl

pub text_takes : Takes counted_bytes TextFits text_at
unfolding text_at
text_takes bytes x rest are e =
    let b = bind_ok (bytes_at bytes) (λ t. cond (is_utf8 t.0) (Ok t) (Err (NotText, bytes))) (x, rest) e in
    elim (chosen (is_utf8 b.0.0) (Ok b.0) (Err (NotText, bytes)) (Ok (x, rest)) b.2) [
      | inl p ↦
          let t = bytes_takes bytes b.0.0 b.0.1 are b.1 in
          subst (λ (y : List ℕ × List ℕ). (bytes ≡ counted_bytes y.0 ++ y.1) × TextFits y.0) (ok_is {E = LocatedFault} b.0 (x, rest) p.1) (t.0, (t.1, p.0))
      | inr p ↦ absurd (let q = p.1 in cc)
    ]

pub text_again : Again counted_bytes TextFits text_at
unfolding text_at
text_again x rest fits = rw (bytes_again x rest fits.0, fits.1) refl

abbrev pub one_byte : ℕ → List ℕ
one_byte b = b ∷ []

pub byte_takes : Takes one_byte (λ b. b < 256) byte_at
unfolding byte_at
byte_takes [] x rest are e = absurd cc
byte_takes (b ∷ bytes) x rest are e =
    subst (λ (y : ℕ × List ℕ). (b ∷ bytes ≡ one_byte y.0 ++ y.1) × (y.0 < 256)) (ok_is {E = LocatedFault} (b, bytes) (x, rest) e) (refl, are.each 0)

pub byte_again : Again one_byte (λ b. b < 256) byte_at
unfolding byte_at
byte_again b rest fits = refl

pub tag_takes : (limit : ℕ) → Takes one_byte (λ b. b < limit) (tag_at limit)
unfolding tag_at
tag_takes limit [] x rest are e = absurd cc
tag_takes limit (b ∷ bytes) x rest are e =
    elim (chosen (ltb b limit) (Ok (b, bytes)) (Err (UnknownTag, b ∷ bytes)) (Ok (x, rest)) e) [
      | inl p ↦ subst (λ (y : ℕ × List ℕ). (b ∷ bytes ≡ one_byte y.0 ++ y.1) × (y.0 < limit)) (ok_is {E = LocatedFault} (b, bytes) (x, rest) p.1) (refl, ltb-true b limit p.0)
      | inr p ↦ absurd (let q = p.1 in cc)
    ]

pub tag_again : (limit : ℕ) → Again one_byte (λ b. b < limit) (tag_at limit)
unfolding tag_at
tag_again limit b rest fits = rw (lt-ltb b limit fits) refl

abbrev pub Anything : Unit {0} → Type 0
Anything u = Unit {0}

pub nothing_takes : Takes (λ u. []) Anything (λ bytes. Ok (tt, bytes))
nothing_takes bytes x rest are e = (ap (λ (y : Unit {0} × List ℕ). y.1) (ok_is {E = LocatedFault} (tt, bytes) (x, rest) e), tt)

pub only_takes : {A : Type 0} (one : A) → Takes (λ x. []) (λ x. x ≡ one) (λ bytes. Ok (one, bytes))
only_takes {A = A} one bytes x rest are e =
    let same = ok_is {A = A × List ℕ} {E = LocatedFault} (one, bytes) (x, rest) e in
    (ap (λ (y : A × List ℕ). y.1) same, sym (ap (λ (y : A × List ℕ). y.0) same))

pub only_again : {A : Type 0} (one : A) → Again (λ x. []) (λ x. x ≡ one) (λ bytes. Ok (one, bytes))
only_again {A = A} one x rest is = ap (λ (y : A). Ok (y, rest)) (sym is)

pub expected_takes : (byte : ℕ) (fault : FieldFault) → Takes (λ u. byte ∷ []) Anything (expected_at byte fault)
unfolding expected_at
expected_takes byte fault [] x rest are e = absurd cc
expected_takes byte fault (b ∷ bytes) x rest are e =
    elim (chosen (eqb b byte) (Ok (tt, bytes)) (Err (fault, b ∷ bytes)) (Ok (x, rest)) e) [
      | inl p ↦ subst (λ (y : Unit {0} × List ℕ). (b ∷ bytes ≡ (byte ∷ []) ++ y.1) × Anything y.0) (ok_is {E = LocatedFault} (tt, bytes) (x, rest) p.1) (ap (λ (c : ℕ). c ∷ bytes) (eqb-true b byte p.0), tt)
      | inr p ↦ absurd (let q = p.1 in cc)
    ]

pub expected_again : (byte : ℕ) (fault : FieldFault) → Again (λ u. byte ∷ []) Anything (expected_at byte fault)
unfolding expected_at
expected_again byte fault u rest fits = rw (eq-eqb byte byte refl) refl
