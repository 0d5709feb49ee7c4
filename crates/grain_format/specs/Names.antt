-- The names of a program: how many there are, and the text of each. All have fewer than 2 ^ 32 bytes.
use Rattle.std.specs.Prelude.{ℕ, ◌^◌, List, length, nat_lt, Bool}
use Rattle.std.specs.List.{concat}
use Rattle.grain_format.specs.declared.error.FieldFault.TheVariants.{NamesTooLong}
use Rattle.grain_format.specs.Formats.{Format, text, counted_list, checked}

abbrev pub are_short : List (List ℕ) → Bool
are_short names = nat_lt (length (concat names)) (2 ^ 32)

abbrev pub names_format : Format (List (List ℕ))
names_format = checked are_short NamesTooLong (counted_list text)
