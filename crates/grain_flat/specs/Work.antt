-- How much work a verification may take.
use Rattle.std.specs.Prelude.{ℕ, ◌-◌, min, List, length, sum_by}
use Rattle.grain_code.specs.Span.{Span}

-- how many bytes of code of this size the chunk spans
abbrev pub spanned : ℕ → Span → ℕ
spanned size chunk = min size chunk.end - chunk.entry

-- how many bytes of the code the chunks span, each counted for itself
abbrev pub work_of : List ℕ → List Span → ℕ
work_of code chunks = sum_by (spanned (length code)) chunks
