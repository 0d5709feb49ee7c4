-- The rows of the operators, and the rows of the program's table.
use Rattle.std.proofs.Common.{◌≡◌, ◌<◌, ◌≤◌, ◌∙◌, ◌+◌, ℕ, Bool, true, false, cond, not, List, [], ◌∷◌, ◌++◌, codes, Option, Some, None, inr, ap, sym, refl, arith, length, map, get_or, nat_lt}
use Rattle.std.specs.Borrow.{Bor}
use Rattle.std.specs.Cmp.Lexicographic.{same_text}
use Rattle.std.specs.Str.{bytes_eq}
use Rattle.std.specs.List.{list_all, position, position_or_len}
use Rattle.std.proofs.lemmas.List.{length-map}
use Rattle.std.proofs.lemmas.List.Quantifiers.{position-Some}
use Rattle.std.proofs.lemmas.List.Folds.{list_all_at}
use Rattle.std.specs.Option.{IfNone, IfSome, option_map}
use Rattle.grain_base.specs.Tokens.{TokenParts, token_parts}
use Rattle.grain_base.specs.declared.token.Token.{Token}
use Rattle.grain_base.specs.Operators.{OperatorRow, operators, plain, row_at, row_of, text_of}

many : length operators ≡ 39
unfolding operators
many = refl

-- the first row that passes is one of them
pub found_within : (p : OperatorRow → Bool) (found : Option ℕ) → found ≡ position p operators → IfSome found (λ number. number < 39)
found_within p None e = tt
found_within p (Some number) e = let within = (position-Some p operators number (plain []) (sym e)).0 in omega (arith, many)

mapped : {A : Type 0} (f : A → OperatorRow) (p : OperatorRow → Bool) (rows : List A) → position_or_len p (map f rows) ≡ position_or_len (λ row. p (f row)) rows
mapped f p [] = refl
mapped f p (row ∷ rows) = ap (λ n. cond (not (p (f row))) (1 + n) 0) (mapped f p rows)

module _ (rows : List (Bor (List ℕ) × Option ℕ)) (same : map row_of rows ≡ operators) where
  pub as_many : length rows ≡ 39
  as_many = sym (length-map rows row_of) ∙ ap length same ∙ many

  -- the first row of the program that passes is the first row
  pub first_row : (p : OperatorRow → Bool) (found : Option ℕ) → found ≡ position (λ row. p (row_of row)) rows → found ≡ position p operators
  first_row p found e =
      let at : position_or_len p operators ≡ position_or_len (λ row. p (row_of row)) rows = ap (position_or_len p) (sym same) ∙ mapped row_of p rows in
      let long : length rows ≡ length operators = as_many ∙ sym many in
      e ∙ ap (λ n. cond (nat_lt n (length rows)) (Some n) None) (sym at) ∙ ap (λ n. cond (nat_lt (position_or_len p operators) n) (Some (position_or_len p operators)) None) long

abbrev is_number : Option ℕ → Bool
is_number None = true
is_number (Some number) = nat_lt number 39

abbrev stands_for_one : OperatorRow → Bool
stands_for_one row = is_number row.base

-- each op-assignment applies one of them
all_stand : list_all stands_for_one operators ≡ true
unfolding operators
all_stand = refl

passes : {A : Type 0} (test : A → Bool) (rows : List A) (n : ℕ) (row : A) (b : Bool) → list_all test rows ≡ true → n < length rows → test (get_or rows n row) ≡ b → b ≡ true
passes test rows n row true all inside e = refl
passes test rows n row false all inside e = absurd (let f = list_all_at test rows n row inside e in cc)

abbrev follows : OperatorRow → Option ℕ → Bool
follows row None = true
follows row (Some number) = bytes_eq row.text ((row_at number).text ++ codes "=")

abbrev ends_in_equals : OperatorRow → Bool
ends_in_equals row = follows row row.base

-- the text of each op-assignment is the text of its operator, followed by `=`
all_end : list_all ends_in_equals operators ≡ true
unfolding operators
all_end = refl

-- the text of an op-assignment by that of the operator that it applies
pub assigned_text : (number base : ℕ) (r : Option Token) (parts : TokenParts) → parts ≡ inr number → number < 39 → (row_at number).base ≡ Some base → IfSome r (λ token. token_parts token ≡ inr base)
    → IfSome r (λ token. text_of parts ≡ text_of (token_parts token) ++ codes "=")
assigned_text number base None parts is inside e found = tt
assigned_text number base (Some token) parts is inside e found =
    let same : bytes_eq (row_at number).text ((row_at base).text ++ codes "=") ≡ true =
    ap (follows (row_at number)) (sym e) ∙ passes ends_in_equals operators number (plain []) _ all_end (omega (arith, many)) refl in
    ap text_of is ∙ same_text (row_at number).text ((row_at base).text ++ codes "=") (sym same) ∙ ap (λ other. text_of other ++ codes "=") (sym found)

-- the operator that the row of a number leads to
pub based : (number base : ℕ) (r : Option Token) → number < 39 → (row_at number).base ≡ Some base → IfSome r (λ token. token_parts token ≡ inr base) → IfNone r (39 ≤ base)
    → option_map token_parts r ≡ option_map (λ n. inr n) (row_at number).base
based number base (Some token) inside e found past = ap Some found ∙ ap (option_map (λ n. inr n)) (sym e)
based number base None inside e found past =
    let within : nat_lt base 39 ≡ true = ap is_number (sym e) ∙ passes stands_for_one operators number (plain []) _ all_stand (omega (arith, many)) refl in
    absurd (grind arith)
