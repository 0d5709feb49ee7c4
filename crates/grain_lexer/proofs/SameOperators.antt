-- Operators that are the same.
use Rattle.std.proofs.Common.{◌≡◌, ◌∙◌, ◌<◌, ℕ, Bool, true, false, inl, inr, ap, sym, Global, String, Result, Ok, Err, MatchResult, Bor, string_bytes}
use Rattle.std.specs.Bool.{OnTrue}
use Rattle.std.specs.Cmp.Lexicographic.{same_text}
use Rattle.std.specs.Result.{result_eq}
use Rattle.std.specs.String.{string_eq}
use Rattle.std.proofs.lemmas.Bool.{eqb-true}
use Rattle.std.proofs.Math.Dec.{eqb}
use Rattle.grain_base.specs.Tokens.{TokenParts}

abbrev pub ArePartsOf : TokenParts → Result ℕ (Bor (String Global)) → Type 0
ArePartsOf parts number = MatchResult number (λ n. (parts ≡ inr n) × (n < 39)) (λ text. parts ≡ inl (string_bytes text.now))

same_if : (p q : TokenParts) (r s : Result ℕ (Bor (String Global))) → ArePartsOf p r → ArePartsOf q s
    → result_eq eqb (λ x y. string_eq x.now y.now) r s ≡ true → p ≡ q
same_if p q (Ok m) (Ok n) a b e = a.0 ∙ ap inr (eqb-true m n e) ∙ sym b.0
same_if p q (Ok m) (Err t) a b e = absurd (let f : false ≡ true = e in cc)
same_if p q (Err t) (Ok n) a b e = absurd (let f : false ≡ true = e in cc)
same_if p q (Err t) (Err u) a b e = a ∙ ap inl (same_text t.now.bytes.items u.now.bytes.items (sym e)) ∙ sym b

-- operators whose numbers, or whose texts, are equal are the same
pub same_parts : (p q : TokenParts) (r s : Result ℕ (Bor (String Global))) (is : Bool) → ArePartsOf p r → ArePartsOf q s
    → is ≡ result_eq eqb (λ x y. string_eq x.now y.now) r s → OnTrue is (p ≡ q)
same_parts p q r s true a b e = same_if p q r s a b (sym e)
same_parts p q r s false a b e = tt
