-- Literals, and the bytes that they encode.
use Rattle.std.specs.Prelude.{◌≡◌, ◌≢◌, ◌+◌, ◌*◌, ◌<◌, ◌⊎◌, ℕ, List, [], ◌∷◌}
use Rattle.std.specs.Char.{digit_value}
use Rattle.grain_lexer.specs.Blanks.{ReadsText, unblanked}

-- two hexadecimal digits write the ASCII character
pub record IsOfDigits (high low b : ℕ) : Type 0 where
  pub high_digit : digit_value high < 16
  pub low_digit : digit_value low < 16
  pub value : b ≡ 16 * digit_value high + digit_value low
  pub ascii : b < 128

-- two hexadecimal digits write a byte, and more follows them
pub data WritesByte : List ℕ → ℕ → List ℕ → Type 0 where
  of_digits : {high low b : ℕ} {more : List ℕ} → IsOfDigits high low b → WritesByte (high ∷ (low ∷ more)) b more

-- the bytes after a backslash encode this byte, and more follows
pub data IsEscape : List ℕ → ℕ → List ℕ → Type 0 where
  line_feed : {more : List ℕ} → IsEscape (110 ∷ more) 10 more
  carriage_return : {more : List ℕ} → IsEscape (114 ∷ more) 13 more
  tab : {more : List ℕ} → IsEscape (116 ∷ more) 9 more
  -- a quote, an apostrophe or a backslash
  itself : {b : ℕ} {more : List ℕ} → (b ≡ 34) ⊎ ((b ≡ 39) ⊎ (b ≡ 92)) → IsEscape (b ∷ more) b more
  hexadecimal : {b : ℕ} {left more : List ℕ} → WritesByte left b more → IsEscape (120 ∷ left) b more

-- a plain byte or an escape encodes this byte, and more follows
pub data IsUnit (quote : ℕ) : List ℕ → ℕ → List ℕ → Type 0 where
  plain : {b : ℕ} {more : List ℕ} → b ≢ quote → b ≢ 92 → IsUnit quote (b ∷ more) b more
  escaped : {b : ℕ} {left more : List ℕ} → IsEscape left b more → IsUnit quote (92 ∷ left) b more

-- the rest of a literal encodes these bytes, and more follows its quote
pub data IsLiteral (quote : ℕ) : List ℕ → List ℕ → List ℕ → Type 0 where
  ends : {more : List ℕ} → IsLiteral quote (quote ∷ more) [] more
  unit : {b : ℕ} {text left bytes more : List ℕ} → IsUnit quote text b left → IsLiteral quote left bytes more
      → IsLiteral quote text (b ∷ bytes) more

-- behind the blanks comes a text in quotes, and then what is left
abbrev pub ReadsQuoted : ℕ → List ℕ → List ℕ → List ℕ → Type 0
ReadsQuoted quote line text left = (rest : List ℕ) × (unblanked line ≡ quote ∷ rest) × IsLiteral quote rest text left

-- behind the blanks comes a text in quotes or as it is, and then what is left
abbrev pub ReadsName : List ℕ → List ℕ → List ℕ → Type 0
ReadsName line text left = ReadsQuoted 34 line text left ⊎ ReadsText line text left
