-- What is read of a line, and the blanks before it.
use Rattle.std.specs.Prelude.{◌≡◌, ℕ, Bool, true, not, ◌||◌, ◌==◌, List, [], ◌∷◌, ◌++◌, drop}
use Rattle.std.specs.List.{position_or_len}

-- neither a space nor a tab
abbrev pub is_mark : ℕ → Bool
is_mark byte = not (byte == 32 || byte == 9)

-- what is left behind the blanks
abbrev pub unblanked : List ℕ → List ℕ
unblanked line = drop (position_or_len is_mark line) line

-- behind the blanks comes a text, and then what is left
abbrev pub ReadsText : List ℕ → List ℕ → List ℕ → Type 0
ReadsText line text left = unblanked line ≡ text ++ left

-- behind the blanks comes a text, whichever it is, and then what is left
abbrev pub HasRead : List ℕ → List ℕ → Type 0
HasRead line left = (text : List ℕ) × ReadsText line text left

-- nothing is left, or a comment comes
abbrev pub is_over : List ℕ → Bool
is_over [] = true
is_over (byte ∷ _) = byte == 59
