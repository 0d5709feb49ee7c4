-- Bytes and texts: how many bytes, and these.
use Rattle.std.specs.Prelude.{ℕ, List, [], ◌∷◌, ◌++◌, length, take, drop, Result, Ok, Err, nat_lt, ◌==◌, if◌then◌else◌}
use Rattle.std.specs.Str.{is_utf8}
use Rattle.grain_format.specs.declared.error.FieldFault.{FieldFault}
use Rattle.grain_format.specs.declared.error.FieldFault.TheVariants.{Truncated, NotText, UnknownTag}
use Rattle.grain_format.specs.Reading.{LocatedFault, ◌>>=◌}
use Rattle.grain_format.specs.Numbers.{number, number_at}

unfoldable pub byte_at : List ℕ → Result (ℕ × List ℕ) LocatedFault
byte_at [] = Err (Truncated, [])
byte_at (byte ∷ rest) = Ok (byte, rest)

unfoldable pub counted_bytes : List ℕ → List ℕ
counted_bytes bytes = number (length bytes) ++ bytes

unfoldable pub bytes_at : List ℕ → Result (List ℕ × List ℕ) LocatedFault
bytes_at bytes = number_at bytes >>= λ n. if nat_lt (length n.1) n.0 then Err (Truncated, n.1) else Ok (take n.0 n.1, drop n.0 n.1)

unfoldable pub text_at : List ℕ → Result (List ℕ × List ℕ) LocatedFault
text_at bytes = bytes_at bytes >>= λ t. if is_utf8 t.0 then Ok t else Err (NotText, bytes)

-- a byte that has to stand there
unfoldable pub expected_at : ℕ → FieldFault → List ℕ → Result (Unit {0} × List ℕ) LocatedFault
expected_at byte fault [] = Err (Truncated, [])
expected_at byte fault (b ∷ rest) = if b == byte then Ok (tt, rest) else Err (fault, b ∷ rest)

-- a byte below a limit
unfoldable pub tag_at : ℕ → List ℕ → Result (ℕ × List ℕ) LocatedFault
tag_at limit [] = Err (Truncated, [])
tag_at limit (b ∷ rest) = if nat_lt b limit then Ok (b, rest) else Err (UnknownTag, b ∷ rest)
