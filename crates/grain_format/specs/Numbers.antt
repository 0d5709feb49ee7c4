-- Numbers in groups of seven bits, the lowest first. Each group but the last has 128 more. The last isn't 0, unless it is
-- the only one, so that each number has one spelling.
use Rattle.std.specs.Prelude.{ℕ, zero, suc, ◌+◌, ◌-◌, ◌*◌, ◌/◌, ◌%◌, ◌^◌, List, [], ◌∷◌, Result, Ok, Err, nat_lt, ◌==◌, if◌then◌else◌}
use Rattle.grain_format.specs.declared.error.FieldFault.{FieldFault}
use Rattle.grain_format.specs.declared.error.FieldFault.TheVariants.{Truncated, TooWide, NotShortest}
use Rattle.grain_format.specs.Reading.{LocatedFault, ◌>>=◌}

-- a first group, and at most `more` further ones
unfoldable pub groups : ℕ → ℕ → List ℕ
groups zero n = (n % 128) ∷ []
groups (suc more) n = if nat_lt n 128 then n ∷ [] else ((n % 128 + 128) ∷ groups more (n / 128))

-- the spelling of a number below 2 ^ 64
unfoldable pub number : ℕ → List ℕ
number n = groups 9 n

-- a group that another follows, with the number that those after it stand for
abbrev pub behind : ℕ → Result (ℕ × List ℕ) FieldFault → Result (ℕ × List ℕ) FieldFault
behind byte (Err fault) = Err fault
behind byte (Ok high) =
    if high.0 == 0 then Err NotShortest else (if nat_lt high.0 (2 ^ 57) then Ok (128 * high.0 + (byte - 128), high.1) else Err TooWide)

unfoldable pub groups_at : ℕ → List ℕ → Result (ℕ × List ℕ) FieldFault
groups_at zero [] = Err Truncated
groups_at zero (byte ∷ rest) = if nat_lt byte 128 then Ok (byte, rest) else Err TooWide
groups_at (suc more) [] = Err Truncated
groups_at (suc more) (byte ∷ rest) = if nat_lt byte 128 then Ok (byte, rest) else behind byte (groups_at more rest)

-- a fault stands where the number begins
abbrev pub located : {A : Type 0} → List ℕ → Result A FieldFault → Result A LocatedFault
located bytes (Ok x) = Ok x
located bytes (Err fault) = Err (fault, bytes)

unfoldable pub number_at : List ℕ → Result (ℕ × List ℕ) LocatedFault
number_at bytes = located bytes (groups_at 9 bytes)

-- a number below a limit
unfoldable pub below_at : ℕ → List ℕ → Result (ℕ × List ℕ) LocatedFault
below_at limit bytes = number_at bytes >>= λ n. if nat_lt n.0 limit then Ok n else Err (TooWide, bytes)
