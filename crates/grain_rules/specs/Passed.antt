-- Which entries of a pool have passed: a bit for each.
use Rattle.std.specs.Prelude.{◌≡◌, ℕ, ◌/◌, ◌%◌, List, slice_index}
use Rattle.std.specs.Int.{bit_at}

-- the bit of an entry is set
abbrev pub HasPassed : List ℕ → ℕ → Type 0
HasPassed words i = bit_at (slice_index words (i / 64)) (i % 64) ≡ 1
