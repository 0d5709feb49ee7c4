-- Lists by their first elements, as slice patterns read them.
use Rattle.std.proofs.Common.{◌≡◌, ◌≢◌, ◌-◌, ◌<◌, ℕ, List, [], ◌∷◌, MatchOption, Option, Some, None, length, take, drop, slice_index_or, sym, subst, arith}
use Rattle.std.proofs.lemmas.List.{take_all}
use Rattle.grain_lexer.specs.Literals.{IsEscape, IsLiteral, IsOfDigits, IsUnit, WritesByte, ends, escaped, hexadecimal, of_digits, plain}

-- what holds of each list that begins with an element holds of one where that is read first
pub at_front : (P : List ℕ → List ℕ → Type 0) (text : List ℕ) (b : ℕ) → ((more : List ℕ) → P (b ∷ more) more) → 0 < length text
    → slice_index_or text 0 0 ≡ b → P text (take (length text - 1) (drop 1 text))
at_front P [] b all long same = absurd (omega arith)
at_front P (x ∷ more) b all long same =
    let rest : take (length (x ∷ more) - 1) more ≡ more = take_all _ more (omega arith) in
    subst (λ r. P (x ∷ more) r) (sym rest) (subst (λ y. P (y ∷ more) more) (sym same) (all more))

pub digits_front : (text : List ℕ) (b : ℕ) → 1 < length text → IsOfDigits (slice_index_or text 0 0) (slice_index_or text 1 0) b
    → WritesByte text b (take (length text - 2) (drop 2 text))
digits_front [] b long digits = absurd (omega arith)
digits_front (x ∷ []) b long digits = absurd (omega arith)
digits_front (x ∷ (y ∷ more)) b long digits =
    let rest : take (length (x ∷ (y ∷ more)) - 2) more ≡ more = take_all _ more (omega arith) in
    subst (λ r. WritesByte (x ∷ (y ∷ more)) b r) (sym rest) (of_digits digits)

pub hexadecimal_escape : (text : List ℕ) (b : ℕ) (more : List ℕ) → 0 < length text → slice_index_or text 0 0 ≡ 120
    → WritesByte (take (length text - 1) (drop 1 text)) b more → IsEscape text b more
hexadecimal_escape text b more long same =
    at_front (λ text left. WritesByte left b more → IsEscape text b more) text 120 (λ left w. hexadecimal w) long same

pub escaped_unit : (quote : ℕ) (text : List ℕ) (b : ℕ) (more : List ℕ) → 0 < length text → slice_index_or text 0 0 ≡ 92
    → IsEscape (take (length text - 1) (drop 1 text)) b more → IsUnit quote text b more
escaped_unit quote text b more long same =
    at_front (λ text left. IsEscape left b more → IsUnit quote text b more) text 92 (λ left e. escaped e) long same

pub plain_unit : (quote : ℕ) (text : List ℕ) → 0 < length text → slice_index_or text 0 0 ≢ quote → slice_index_or text 0 0 ≢ 92
    → IsUnit quote text (slice_index_or text 0 0) (take (length text - 1) (drop 1 text))
plain_unit quote [] long other bare = absurd (omega arith)
plain_unit quote (x ∷ more) long other bare =
    let rest : take (length (x ∷ more) - 1) more ≡ more = take_all _ more (omega arith) in
    subst (λ r. IsUnit quote (x ∷ more) x r) (sym rest) (plain other bare)

-- what is read at the end of a literal, and before it
pub ended : (quote : ℕ) (text more : List ℕ) (read : Option ℕ) → MatchOption read (text ≡ quote ∷ more) (λ b. IsUnit quote text b more)
    → read ≡ None → IsLiteral quote text [] more
ended quote text more None m is = subst (λ t. IsLiteral quote t [] more) (sym m) ends
ended quote text more (Some _) m is = absurd (cc)

pub another : (quote : ℕ) (text more : List ℕ) (read : Option ℕ) (b : ℕ) → MatchOption read (text ≡ quote ∷ more) (λ b. IsUnit quote text b more)
    → read ≡ Some b → IsUnit quote text b more
another quote text more None b m is = absurd (cc)
another quote text more (Some x) b m is = let same : x ≡ b = cc in subst (λ y. IsUnit quote text y more) same m
