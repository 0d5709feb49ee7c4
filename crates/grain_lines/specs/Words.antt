-- The words of a line, and texts that lack a byte.
use Rattle.std.specs.Prelude.{◌≡◌, All, ℕ, ◌==◌, Bool, true, false, List, [], ◌∷◌, ◌++◌, filter}
use Rattle.std.specs.List.{slice_split}

-- no such byte stands in the text
abbrev pub Lacks : ℕ → List ℕ → Type 0
Lacks byte text = All (λ b. (b == byte) ≡ false) text

-- the text ends with the rest, and what stands before the rest lacks the byte
pub record Skips (byte : ℕ) (text rest : List ℕ) : Type 0 where
  pub front : List ℕ
  pub parts : text ≡ front ++ rest
  pub lacks : Lacks byte front

abbrev pub is_space : ℕ → Bool
is_space byte = byte == 32

-- not empty
abbrev pub is_word : List ℕ → Bool
is_word [] = false
is_word (byte ∷ bytes) = true

-- the words, which one or more spaces separate. Spaces before the first and after the last make no
-- word.
abbrev pub words : List ℕ → List (List ℕ)
words line = filter is_word (slice_split is_space line)

-- no space stands in front
abbrev pub StartsWord : List ℕ → Type 0
StartsWord [] = Unit {0}
StartsWord (byte ∷ bytes) = is_space byte ≡ false
