-- Names that are cut from ASCII are text.
use Rattle.std.proofs.Common.{◌≡◌, ℕ, ◌+◌, ◌-◌, ◌<◌, List, drop, get_or, length, take, true, IsAscii, bit_or, arith}
use Rattle.std.specs.Str.{is_utf8}
use Rattle.std.proofs.lemmas.Nat.{le_or_l, le_or_r}
use Rattle.std.proofs.lemmas.Str.{IsAscii-drop, IsAscii-take, IsUtf8-from_ascii, is_utf8-from_IsUtf8}
use Rattle.std.proofs.lemmas.Str.Ascii.{IsAscii-more}

-- the bytes from one start to the next
pub span_is_text : (blob : List ℕ) (from to : ℕ) → IsAscii blob → is_utf8 (take (to - from) (drop from blob)) ≡ true
span_is_text blob from to ascii = is_utf8-from_IsUtf8 _ (IsUtf8-from_ascii _ (IsAscii-take _ _ (IsAscii-drop blob from ascii)))

-- bits that were gathered stay, so that where they are low, each byte is
pub one_more : (bytes : List ℕ) (i bits : ℕ) → i < length bytes → (bits < 128 → IsAscii (take i bytes)) → bit_or bits (get_or bytes i 0) < 128 → IsAscii (take (i + 1) bytes)
one_more bytes i bits inside before low =
    let bits_low : bits < 128 = omega (arith, le_or_l bits (get_or bytes i 0)) in
    let byte_low : get_or bytes i 0 < 128 = omega (arith, le_or_r bits (get_or bytes i 0)) in
    IsAscii-more bytes i inside (before bits_low) byte_low
