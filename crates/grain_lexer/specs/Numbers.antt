-- Numbers as texts write them.
use Rattle.std.specs.declared.num.IntErrorKind.{IntErrorKind}
use Rattle.std.specs.declared.num.IntErrorKind.TheVariants.{PosOverflow, NegOverflow}
use Rattle.std.specs.Prelude.{◌≡◌, ◌⊎◌, ℕ, ℤ, Bool, List, ◌∷◌, [], drop, nat_eq, if◌then◌else◌}
use Rattle.std.specs.List.{starts_with}
use Rattle.std.specs.Str.Parse.{IsNumeral, digits_value, signed_digits_value, without_leading_plus}
use Rattle.grain_lexer.specs.Blanks.{ReadsText, unblanked}

-- hexadecimal digits follow 0x
abbrev pub is_hexadecimal : List ℕ → Bool
is_hexadecimal text = starts_with nat_eq text (48 ∷ 120 ∷ [])

abbrev pub radix_of : List ℕ → ℕ
radix_of text = if is_hexadecimal text then 16 else 10

abbrev pub digits_of : List ℕ → List ℕ
digits_of text = if is_hexadecimal text then drop 2 text else text

-- the text is digits, and they write the number
pub record IsNumber (text : List ℕ) (n : ℕ) : Type 0 where
  pub digits : IsNumeral (radix_of text) (without_leading_plus (digits_of text))
  pub value : n ≡ digits_value (radix_of text) (without_leading_plus (digits_of text))

-- behind the blanks comes a text that writes the number, and then what is left
abbrev pub ReadsNumeral : List ℕ → ℕ → List ℕ → Type 0
ReadsNumeral line n left = (text : List ℕ) × ReadsText line text left × IsNumber text n

-- the same of decimal digits, before which may be a sign
abbrev pub ReadsInteger : List ℕ → ℤ → List ℕ → Type 0
ReadsInteger line n left = (text : List ℕ) × ReadsText line text left × (n ≡ signed_digits_value 10 text)

-- behind the blanks come # and a number, and then what is left
abbrev pub ReadsIndex : List ℕ → ℕ → List ℕ → Type 0
ReadsIndex line n left = (digits : List ℕ) × (unblanked line ≡ 35 ∷ digits) × ReadsNumeral digits n left

-- the digits are a number that the type doesn't have
abbrev pub IsOutOfRange : IntErrorKind → Type 0
IsOutOfRange kind = (kind ≡ PosOverflow) ⊎ (kind ≡ NegOverflow)
