-- Where in a text a refusal is.
use Rattle.std.specs.Prelude.{◌≡◌, ◌≤◌, ◌+◌, ◌-◌, ℕ, List, length, slice_get, Some, string_bytes}
use Rattle.grain_parse.specs.declared.error.SyntaxError.{SyntaxError}
use Rattle.grain_parse.specs.declared.error.ParseError.{ParseError}
use Rattle.grain_parse.specs.declared.error.ParseError.TheVariants.{Syntax, Refused, NamesTooLong, OutOfMemory}

-- the refusal names a line of the text, has that line, and a column in it or one past its end
pub record IsPlacedLine (texts : List (List ℕ)) (e : SyntaxError) : Type 0 where
  pub first : 1 ≤ e.line
  pub line : slice_get texts (e.line - 1) ≡ Some (string_bytes e.text)
  pub begins : 1 ≤ e.column
  pub inside : e.column ≤ length (string_bytes e.text) + 1

abbrev pub IsPlacedError : List (List ℕ) → ParseError → Type 0
IsPlacedError texts (Syntax e) = IsPlacedLine texts e
IsPlacedError texts (Refused _) = Unit {0}
IsPlacedError texts NamesTooLong = Unit {0}
IsPlacedError texts OutOfMemory = Unit {0}
