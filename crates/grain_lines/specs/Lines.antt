-- The lines of an input, and which of them are cases. How an input is cut into lines is std's `lines`:
-- a line feed ends a line, the last line may lack it, and one carriage return before the line feed
-- belongs to neither.
use Rattle.std.specs.Prelude.{◌≡◌, All, ℕ, ◌==◌, Bool, false, not, List, [], ◌∷◌, ◌++◌, count_by}
use Rattle.std.specs.Prelude.{filter, flat_map, take}
use Rattle.std.specs.Str.Lines.{lines}
use Rattle.grain_lines.specs.Words.{Lacks}

abbrev pub is_line_feed : ℕ → Bool
is_line_feed byte = byte == 10

-- a line with the line feed (10) that ends it
abbrev pub ended : List ℕ → List ℕ
ended line = line ++ 10 ∷ []

-- lines one after the other, each ended by a line feed
abbrev pub ended_lines : List (List ℕ) → List ℕ
ended_lines parts = flat_map ended parts

-- the lines that a line feed ends: the first ones, as many as there are line feeds
abbrev pub complete_lines : List ℕ → List (List ℕ)
complete_lines input = take (count_by is_line_feed input) (lines input)

-- neither empty nor a comment, which begins with `#` (35)
abbrev pub is_case : List ℕ → Bool
is_case [] = false
is_case (byte ∷ bytes) = not (byte == 35)

-- the lines that are answered, each by one verdict
abbrev pub case_lines : List ℕ → List (List ℕ)
case_lines input = filter is_case (lines input)

-- those of them that a line feed ends
abbrev pub complete_cases : List ℕ → List (List ℕ)
complete_cases input = filter is_case (complete_lines input)

-- the input is these lines, each ended by a line feed, and then a rest without one
pub record AreLines (input : List ℕ) (lines : List (List ℕ)) (rest : List ℕ) : Type 0 where
  pub whole : input ≡ ended_lines lines ++ rest
  pub each : All (Lacks 10) lines
  pub lacks : Lacks 10 rest
