-- How the operators of the language are written.
use Rattle.std.specs.Prelude.{ℕ, List, Option, None, codes, map, set, slice_get}
use Rattle.std.proofs.Common.{inl, inr}
use Rattle.grain_base.specs.Operators.{OperatorRow, operators}
use Rattle.grain_base.specs.Tokens.{TokenParts, token_parts}
use Rattle.grain_base.specs.declared.token.Token.{Token}

-- the spellings, in the order of the operators' numbers: their texts, but for the two before one operand whose texts others have too
unfoldable pub spellings : List (List ℕ)
spellings = set (set (map (λ (row : OperatorRow). row.text) operators) 1 (codes "unary+")) 3 (codes "unary-")

-- the spelling of an operator by its number; one that the host has added has none
abbrev pub spelling_at : TokenParts → Option (List ℕ)
spelling_at (inl _) = None
spelling_at (inr number) = slice_get spellings number

abbrev pub spelling_of : Token → Option (List ℕ)
spelling_of token = spelling_at (token_parts token)
