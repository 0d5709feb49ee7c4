-- Operators as texts write them.
use Rattle.std.specs.Prelude.{◌≡◌, ◌⊎◌, ℕ, List, Some}
use Rattle.std.proofs.Common.{inl}
use Rattle.grain_base.specs.Tokens.{token_parts}
use Rattle.grain_base.specs.declared.token.Token.{Token}
use Rattle.grain_print.specs.Spellings.{spelling_of}
use Rattle.grain_lexer.specs.Blanks.{ReadsText}
use Rattle.grain_lexer.specs.Literals.{ReadsQuoted}

-- behind the blanks comes the spelling of an operator, or in quotes the text of one that the host has added, and then what is left
abbrev pub ReadsOperator : List ℕ → Token → List ℕ → Type 0
ReadsOperator line token left =
    ((spelling : List ℕ) × ReadsText line spelling left × (spelling_of token ≡ Some spelling))
    ⊎ ((text : List ℕ) × ReadsQuoted 34 line text left × (token_parts token ≡ inl text))
