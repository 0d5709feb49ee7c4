-- Texts and numbers that are read behind blanks.
use Rattle.std.proofs.Common.{◌≡◌, ◌∙◌, ◌∷◌, [], ℕ, List, Global, String, Result, Ok, Err, IfOk, ap, inl, inr, string_bytes, sym}
use Rattle.std.specs.Str.Parse.{ParsesUnsigned}
use Rattle.grain_lexer.specs.Blanks.{ReadsText, unblanked}
use Rattle.grain_lexer.specs.Literals.{ReadsName, ReadsQuoted}
use Rattle.grain_lexer.specs.Numbers.{ReadsNumeral, digits_of, radix_of}
use Rattle.grain_lexer.specs.Operators.{ReadsOperator}
use Rattle.grain_base.specs.declared.token.Token.{Token}
use Rattle.grain_lexer.proofs.Unblanked.{unblanked-unblanked}

pub text_again : (line mid text left : List ℕ) → mid ≡ unblanked line → ReadsText mid text left → ReadsText line text left
text_again line mid text left e reads = sym (unblanked-unblanked line) ∙ ap unblanked (sym e) ∙ reads

-- a name that is read behind no blanks is read behind them
pub name_again : (line mid name left : List ℕ) → mid ≡ unblanked line → ReadsName mid name left → ReadsName line name left
name_again line mid name left e (inl read) = inl (read.0, text_again line mid (34 ∷ []) read.0 e read.1, read.2)
name_again line mid name left e (inr read) = inr (text_again line mid name left e read)

-- the same of an operator
pub operator_again : (line mid : List ℕ) (token : Token) (left : List ℕ) → mid ≡ unblanked line → ReadsOperator mid token left → ReadsOperator line token left
operator_again line mid token left e (inl read) = inl (read.0, text_again line mid read.0 left e read.1, read.2)
operator_again line mid token left e (inr read) = inr (read.0, (read.1.0, text_again line mid (34 ∷ []) read.1.0 e read.1.1, read.1.2), read.2)

pub quoted_again : {E : Type 0} (line mid left : List ℕ) (r : Result (String Global) E) → mid ≡ unblanked line → IfOk r (λ text. ReadsQuoted 34 mid (string_bytes text) left)
    → IfOk r (λ text. ReadsName line (string_bytes text) left)
quoted_again line mid left (Ok text) e read = name_again line mid (string_bytes text) left e (inl read)
quoted_again line mid left (Err _) e read = tt

pub number_read : {E : Type 0} (line mid text left : List ℕ) (r : Result ℕ E) → mid ≡ unblanked line → ReadsText mid text left
    → ParsesUnsigned 64 (radix_of text) (digits_of text) r → IfOk r (λ n. ReadsNumeral line n left)
number_read line mid text left (Ok n) e reads p =
    (text, text_again line mid text left e reads, record { digits = p.0.0; value = p.1 })
number_read line mid text left (Err _) e reads p = tt

pub number_again : (line mid left : List ℕ) (n : ℕ) → mid ≡ unblanked line → ReadsNumeral mid n left → ReadsNumeral line n left
number_again line mid left n e read = (read.0, text_again line mid read.0 left e read.1, read.2)
