-- Operators by their spellings.
use Rattle.std.proofs.Common.{◌≡◌, ◌≢◌, ◌<◌, ◌≤◌, ◌∙◌, ℕ, Bool, true, false, List, [], Option, Some, None, map, set, ap, codes, sym, refl, subst, arith, length, slice_get, option_map, inr, inl, get_or, zero-add}
use Rattle.std.proofs.lemmas.List.{get_or-map, get_or-set_other, length-map, length-set}
use Rattle.std.proofs.lemmas.List.Quantifiers.{position-Some}
use Rattle.std.proofs.lemmas.List.Sums.{fails_before_first}
use Rattle.std.specs.Cmp.Lexicographic.{same_text}
use Rattle.std.specs.List.{position, position_or_len, range_with_len}
use Rattle.std.specs.Option.{IfNone, IfSome}
use Rattle.std.specs.Str.{bytes_eq}
use Rattle.std.proofs.lemmas.Slice.Eq.{bytes_eq-Decides}
use Rattle.std.proofs.lemmas.List.FromFn.{get_or-range_with_len}
use Rattle.std.proofs.lemmas.Option.{slice_get-get_or, slice_get-map, slice_get_within}
use Rattle.grain_base.specs.Operators.{OperatorRow, first_with, operators, plain, row_at}
use Rattle.grain_base.specs.Tokens.{TokenParts, token_parts}
use Rattle.grain_base.specs.declared.token.Token.{Token}
use Rattle.grain_print.specs.Spellings.{spelling_at, spellings}

-- no spelling is in the list twice
alone : map (λ s. position (bytes_eq s) spellings) spellings ≡ map (λ (n : ℕ). Some n) (range_with_len 0 39)
unfolding spellings operators
alone = refl

only_at : (s : List ℕ) (n : ℕ) → slice_get spellings n ≡ Some s → (n < 39) × (position (bytes_eq s) spellings ≡ Some n)
only_at s n e =
    let inside : n < length spellings = slice_get_within spellings n s e in
    let long : length spellings ≡ 39 = unfold spellings in unfold operators in refl in
    let short : n < 39 = omega arith in
    let first : List ℕ → Option ℕ = λ s. position (bytes_eq s) spellings in
    let read : slice_get (range_with_len 0 39) n ≡ Some n =
    slice_get-get_or (range_with_len 0 39) n 0 short ∙ ap Some (get_or-range_with_len 0 39 n 0 short ∙ zero-add n) in
    let both : Some (first s) ≡ Some (Some n) =
    ap (option_map first) (sym e) ∙ sym (slice_get-map first spellings n) ∙ ap (λ (xs : List (Option ℕ)). slice_get xs n) alone
    ∙ slice_get-map (λ (n : ℕ). Some n) (range_with_len 0 39) n ∙ ap (option_map (λ (n : ℕ). Some n)) read in
    (short, cc)

-- an operator with a spelling has the number at which that is
numbered : (parts : TokenParts) (s : List ℕ) (n : ℕ) → spelling_at parts ≡ Some s → slice_get spellings n ≡ Some s → parts ≡ inr n
numbered (inl _) s n e there = absurd (cc)
numbered (inr m) s n e there = let a = (only_at s m e).1 in let b = (only_at s n there).1 in let same : m ≡ n = cc in ap inr same

-- the operators before one operand
pub unary_plus : slice_get spellings 1 ≡ Some (codes "unary+")
unfolding spellings operators
unary_plus = refl

pub unary_minus : slice_get spellings 3 ≡ Some (codes "unary-")
unfolding spellings operators
unary_minus = refl

-- the spelling of each other operator is its text
pub spelled : (n : ℕ) → n < 39 → n ≢ 1 → n ≢ 3 → slice_get spellings n ≡ Some (row_at n).text
unfolding spellings
spelled n inside plus minus =
    let texts : List (List ℕ) = map (λ (row : OperatorRow). row.text) operators in
    let one : List (List ℕ) = set texts 1 (codes "unary+") in
    let many : length operators ≡ 39 = unfold operators in refl in
    let long : n < length (set one 3 (codes "unary-")) = omega (arith, many, length-map operators (λ (row : OperatorRow). row.text), length-set texts 1 (codes "unary+"), length-set one 3 (codes "unary-")) in
    slice_get-get_or spellings n [] long ∙ ap Some (get_or-set_other one 3 n (codes "unary-") [] minus ∙ get_or-set_other texts 1 n (codes "unary+") [] plus ∙ get_or-map (λ (row : OperatorRow). row.text) operators n (plain []) [] (omega (arith, many)))

plus_twice : (row_at 0).text ≡ (row_at 1).text
unfolding operators
plus_twice = refl

minus_twice : (row_at 2).text ≡ (row_at 3).text
unfolding operators
minus_twice = refl

-- of two operators with one text the second isn't found
not_second : (s : List ℕ) (n first second : ℕ) → (row_at first).text ≡ (row_at second).text → first < second → first_with s ≡ Some n → n ≢ second
not_second s n first second same before e is =
    let test : OperatorRow → Bool = λ row. bytes_eq row.text s in
    let found = position-Some test operators n (plain []) e in
    let passes : test (row_at first) ≡ true = ap (λ text. bytes_eq text s) same ∙ subst (λ m. test (row_at m) ≡ true) is found.1 in
    let fails : test (row_at first) ≡ false = found.2 first (omega arith) in
    let wrong : true ≡ false = sym passes ∙ fails in
    cc

-- the spelling of an operator that is found by its text
found_at : (s : List ℕ) (n : ℕ) → first_with s ≡ Some n → slice_get spellings n ≡ Some s
found_at s n e =
    let found = position-Some (λ (row : OperatorRow). bytes_eq row.text s) operators n (plain []) e in
    let many : length operators ≡ 39 = unfold operators in refl in
    spelled n (omega (arith, many)) (not_second s n 0 1 plus_twice (omega arith) e) (not_second s n 2 3 minus_twice (omega arith) e) ∙ ap Some (same_text (row_at n).text s (sym found.1))

found_by : (s : List ℕ) (f : Option ℕ) (parts : TokenParts) → first_with s ≡ f → Some parts ≡ option_map (λ n. inr n) f → spelling_at parts ≡ Some s
found_by s None parts is e = absurd (cc)
found_by s (Some n) parts is e = let same : parts ≡ inr n = cc in ap spelling_at same ∙ found_at s n is

pub text_found : (s : List ℕ) (r : Option Token) → option_map token_parts r ≡ option_map (λ n. inr n) (first_with s) → IfSome r (λ token. spelling_at (token_parts token) ≡ Some s)
text_found s None e = tt
text_found s (Some token) e = found_by s (first_with s) (token_parts token) refl e

missed : (s : List ℕ) (m : ℕ) → first_with s ≡ None → m < 39 → (row_at m).text ≡ s → ⊥
missed s m none inside is =
    let test : OperatorRow → Bool = λ row. bytes_eq row.text s in
    let many : length operators ≡ 39 = unfold operators in refl in
    let past : length operators ≤ position_or_len test operators = grind arith in
    let fails : test (row_at m) ≡ false = fails_before_first test operators m (plain []) (omega arith) in
    let wrong : bytes_eq s s ≡ false = subst (λ text. bytes_eq text s ≡ false) is fails in
    let passes : bytes_eq s s ≡ true = (bytes_eq-Decides s s).1 refl in
    let bad : true ≡ false = sym passes ∙ wrong in
    cc

only_by : (s : List ℕ) (f : Option ℕ) (parts : TokenParts) → s ≢ codes "unary+" → s ≢ codes "unary-" → first_with s ≡ f → spelling_at parts ≡ Some s → option_map (λ n. inr n) f ≡ Some parts
only_by s (Some n) parts plus minus is e = ap Some (sym (numbered parts s n e (found_at s n is)))
only_by s None (inl _) plus minus is e = absurd (cc)
only_by s None (inr m) plus minus is e =
    let inside = (only_at s m e).0 in
    let other : m ≢ 1 = λ same. plus (let both : Some s ≡ Some (codes "unary+") = sym e ∙ ap (slice_get spellings) same ∙ unary_plus in cc) in
    let another : m ≢ 3 = λ same. minus (let both : Some s ≡ Some (codes "unary-") = sym e ∙ ap (slice_get spellings) same ∙ unary_minus in cc) in
    let read : Some (row_at m).text ≡ Some s = sym (spelled m inside other another) ∙ e in
    absurd (missed s m is inside (cc))

pub text_only : (s : List ℕ) (r : Option Token) (parts : TokenParts) → s ≢ codes "unary+" → s ≢ codes "unary-" → option_map token_parts r ≡ option_map (λ n. inr n) (first_with s)
    → spelling_at parts ≡ Some s → option_map token_parts r ≡ Some parts
text_only s r parts plus minus found e = found ∙ only_by s (first_with s) parts plus minus refl e

pub number_found : (s : List ℕ) (n : ℕ) (r : Option Token) → slice_get spellings n ≡ Some s → IfSome r (λ token. token_parts token ≡ inr n)
    → IfSome r (λ token. spelling_at (token_parts token) ≡ Some s)
number_found s n None there found = tt
number_found s n (Some token) there found = ap spelling_at found ∙ there

pub number_only : (s : List ℕ) (n : ℕ) (r : Option Token) (parts : TokenParts) → slice_get spellings n ≡ Some s
    → IfSome r (λ token. token_parts token ≡ inr n) → IfNone r (39 ≤ n) → spelling_at parts ≡ Some s → option_map token_parts r ≡ Some parts
number_only s n None parts there found past e = let short = (only_at s n there).0 in absurd (omega arith)
number_only s n (Some token) parts there found past e = ap Some (found ∙ sym (numbered parts s n e there))
