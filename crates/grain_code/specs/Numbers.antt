-- Numbers in code.
use Rattle.std.specs.Prelude.{ℕ, ◌+◌, List, Option, Some, None, take, drop, length, nat_le, if◌then◌else◌}
use Rattle.std.specs.Int.{Width, byte_len, from_le_bytes}

-- the number of this width at an address, lowest byte first, if it is wholly there
abbrev pub number_at : Width → List ℕ → ℕ → Option ℕ
number_at w code at = if nat_le (at + byte_len w) (length code) then Some (from_le_bytes w (take (byte_len w) (drop at code))) else None
