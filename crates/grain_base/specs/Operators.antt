-- The operators of the language as source text has them.
use Rattle.std.specs.Prelude.{ℕ, List, Option, None, Some, [], ◌∷◌, codes, get_or, nat_eq}
use Rattle.std.specs.Borrow.{Bor}
use Rattle.std.specs.List.{position}
use Rattle.std.specs.Option.{option_eq}
use Rattle.std.specs.Str.{bytes_eq}
use Rattle.std.proofs.Common.{inl, inr}
use Rattle.grain_base.specs.Tokens.{TokenParts}

-- an operator's text, and for an op-assignment the number of the operator that it applies
pub record OperatorRow : Type 0 where
  pub text : List ℕ
  pub base : Option ℕ

-- a row as the program has it
abbrev pub row_of : Bor (List ℕ) × Option ℕ → OperatorRow
row_of row = record { text = row.0.now; base = row.1 }

abbrev pub plain : List ℕ → OperatorRow
plain text = record { text = text; base = None }

abbrev pub assignment : List ℕ → ℕ → OperatorRow
assignment text base = record { text = text; base = Some base }

-- the operators, in the order of their numbers
unfoldable pub operators : List OperatorRow
operators =
    plain (codes "+") ∷ plain (codes "+") ∷ plain (codes "-") ∷ plain (codes "-") ∷ plain (codes "*") ∷ plain (codes "/") ∷ plain (codes "%")
    ∷ plain (codes "**") ∷ plain (codes "<<") ∷ plain (codes ">>") ∷ plain (codes "&") ∷ plain (codes "|") ∷ plain (codes "^") ∷ plain (codes "&&")
    ∷ plain (codes "||") ∷ plain (codes "!") ∷ plain (codes "??") ∷ plain (codes "==") ∷ plain (codes "!=") ∷ plain (codes "<") ∷ plain (codes "<=")
    ∷ plain (codes ">") ∷ plain (codes ">=") ∷ plain (codes "in") ∷ plain (codes "!in") ∷ plain (codes "..") ∷ plain (codes "..=") ∷ plain (codes "=")
    ∷ assignment (codes "+=") 0 ∷ assignment (codes "-=") 2 ∷ assignment (codes "*=") 4 ∷ assignment (codes "/=") 5 ∷ assignment (codes "%=") 6
    ∷ assignment (codes "**=") 7 ∷ assignment (codes "<<=") 8 ∷ assignment (codes ">>=") 9 ∷ assignment (codes "&=") 10 ∷ assignment (codes "|=") 11
    ∷ assignment (codes "^=") 12 ∷ []

-- the row of a number
abbrev pub row_at : ℕ → OperatorRow
row_at number = get_or operators number (plain [])

-- the text of an operator
abbrev pub text_of : TokenParts → List ℕ
text_of (inl text) = text
text_of (inr number) = (row_at number).text

-- the number of the operator that an op-assignment applies
abbrev pub base_operator_of : TokenParts → Option ℕ
base_operator_of (inl _) = None
base_operator_of (inr number) = (row_at number).base

-- the number of the first operator with this text
abbrev pub first_with : List ℕ → Option ℕ
first_with text = position (λ (row : OperatorRow). bytes_eq row.text text) operators

-- the number of the op-assignment that applies an operator
abbrev pub assignment_of : TokenParts → Option ℕ
assignment_of (inl _) = None
assignment_of (inr number) = position (λ (row : OperatorRow). option_eq nat_eq row.base (Some number)) operators
