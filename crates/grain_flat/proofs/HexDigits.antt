-- Four hexadecimal digits of a number of 16 bits.
use Rattle.std.proofs.Common.{◌≡◌, ⊎_elim, nat_eq, ℕ, suc, ◌-◌, ◌/◌, ◌%◌, ◌<◌, Bool, true, false, cond, List, [], ◌∷◌, ◌++◌, length, replicate, refl, ap, ◌∙◌, arith}
use Rattle.std.specs.Fmt.{digit_glyph, digits, digits_onto}
use Rattle.std.proofs.lemmas.Bool.{eq-eqb, ne_eqb, cases_lt}
use Rattle.grain_rules.specs.Texts.{four_digits}

-- one more digit, by whether it is the first
onto_suc : (k n : ℕ) (acc : List ℕ) (t : Bool) → nat_eq (n / 16) 0 ≡ t
    → digits_onto (suc k) 16 false n acc ≡ cond t (digit_glyph false (n % 16) ∷ acc) (digits_onto k 16 false (n / 16) (digit_glyph false (n % 16) ∷ acc))
onto_suc k n acc t e = ap (λ (b : Bool). cond b (digit_glyph false (n % 16) ∷ acc) (digits_onto k 16 false (n / 16) (digit_glyph false (n % 16) ∷ acc))) e

last : (k n : ℕ) (acc : List ℕ) → n / 16 ≡ 0 → digits_onto (suc k) 16 false n acc ≡ digit_glyph false (n % 16) ∷ acc
last k n acc e = onto_suc k n acc true (eq-eqb _ 0 e)

more : (k n : ℕ) (acc : List ℕ) → (n / 16 ≡ 0 → ⊥) → digits_onto (suc k) 16 false n acc ≡ digits_onto k 16 false (n / 16) (digit_glyph false (n % 16) ∷ acc)
more k n acc e = onto_suc k n acc false (ne_eqb _ 0 e)

-- the digits that a number has
abbrev padded : List ℕ → List ℕ
padded ds = replicate (4 - length ds) 48 ++ ds

abbrev glyph : ℕ → ℕ
glyph = digit_glyph false

whole : (n : ℕ) → digits 16 false n ≡ digits_onto 64 16 false n []
unfolding digits
whole n = refl

one : (n : ℕ) → n < 16 → four_digits n ≡ 48 ∷ 48 ∷ 48 ∷ glyph (n % 16) ∷ []
one n small = ap padded (whole n ∙ last 63 n [] (omega arith))

two : (n : ℕ) → (n < 16 → ⊥) → n < 256 → four_digits n ≡ 48 ∷ 48 ∷ glyph (n / 16 % 16) ∷ glyph (n % 16) ∷ []
two n large small = ap padded (whole n ∙ more 63 n [] (λ e. large (omega arith)) ∙ last 62 (n / 16) (glyph (n % 16) ∷ []) (omega arith))

three : (n : ℕ) → (n < 256 → ⊥) → n < 4096 → four_digits n ≡ 48 ∷ glyph (n / 16 / 16 % 16) ∷ glyph (n / 16 % 16) ∷ glyph (n % 16) ∷ []
three n large small =
    ap padded (whole n ∙ more 63 n [] (λ e. large (omega arith)) ∙ more 62 (n / 16) (glyph (n % 16) ∷ []) (λ e. large (omega arith))
    ∙ last 61 (n / 16 / 16) (glyph (n / 16 % 16) ∷ glyph (n % 16) ∷ []) (omega arith))

four : (n : ℕ) → (n < 4096 → ⊥) → n < 65536 → four_digits n ≡ glyph (n / 16 / 16 / 16 % 16) ∷ glyph (n / 16 / 16 % 16) ∷ glyph (n / 16 % 16) ∷ glyph (n % 16) ∷ []
four n large small =
    ap padded (whole n ∙ more 63 n [] (λ e. large (omega arith)) ∙ more 62 (n / 16) (glyph (n % 16) ∷ []) (λ e. large (omega arith))
    ∙ more 61 (n / 16 / 16) (glyph (n / 16 % 16) ∷ glyph (n % 16) ∷ []) (λ e. large (omega arith))
    ∙ last 60 (n / 16 / 16 / 16) (glyph (n / 16 / 16 % 16) ∷ glyph (n / 16 % 16) ∷ glyph (n % 16) ∷ []) (omega arith))

-- the digits by their places
abbrev spelled : ℕ → ℕ → ℕ → ℕ → List ℕ
spelled a b c d = glyph a ∷ glyph b ∷ glyph c ∷ glyph d ∷ []

respelled : (a b c d e f g h : ℕ) → a ≡ e → b ≡ f → c ≡ g → d ≡ h → spelled a b c d ≡ spelled e f g h
respelled a b c d e f g h first second third last = λ i. glyph (first i) ∷ glyph (second i) ∷ glyph (third i) ∷ glyph (last i) ∷ []

pub four_are : (n : ℕ) → n < 65536 → four_digits n ≡ glyph (n / 4096) ∷ glyph (n / 256 % 16) ∷ glyph (n / 16 % 16) ∷ glyph (n % 16) ∷ []
four_are n small = ⊎_elim
    (λ l. one n l ∙ respelled 0 0 0 (n % 16) (n / 4096) (n / 256 % 16) (n / 16 % 16) (n % 16) (omega arith) (omega arith) (omega arith) refl)
    (λ g. ⊎_elim
    (λ l. two n (λ x. omega arith) l ∙ respelled 0 0 (n / 16 % 16) (n % 16) (n / 4096) (n / 256 % 16) (n / 16 % 16) (n % 16) (omega arith) (omega arith) refl refl)
    (λ h. ⊎_elim
    (λ l. three n (λ x. omega arith) l ∙ respelled 0 (n / 16 / 16 % 16) (n / 16 % 16) (n % 16) (n / 4096) (n / 256 % 16) (n / 16 % 16) (n % 16) (omega arith) (omega arith) refl refl)
    (λ l. four n (λ x. omega arith) small ∙ respelled (n / 16 / 16 / 16 % 16) (n / 16 / 16 % 16) (n / 16 % 16) (n % 16) (n / 4096) (n / 256 % 16) (n / 16 % 16) (n % 16) (omega arith) (omega arith) refl refl)
    (cases_lt n 4096))
    (cases_lt n 256))
    (cases_lt n 16)
