-- The bits of a floating-point number as a signed number, and back.
use Rattle.std.proofs.Common.{◌≡◌, ℕ, ◌<◌, ◌^◌, refl, inl, inr}
use Rattle.std.proofs.lemmas.Bool.{lt-ltb, le-ltb, cases_lt}
use Rattle.std.proofs.lemmas.Int.{of_z-to_z}
use Rattle.std.specs.Int.{w64, cast_signed, cast_unsigned}
use Rattle.grain_flat_file.specs.Values.{float_number}

pub number_of_bits : (n : ℕ) → n < 2 ^ 64 → float_number n ≡ cast_signed w64 n
unfolding float_number
number_of_bits n small = rw (lt-ltb n (2 ^ 64) small) refl

pub bits_back : (n : ℕ) → cast_unsigned w64 (float_number n) ≡ n
unfolding float_number
bits_back n = elim (cases_lt n (2 ^ 64)) [
  | inl small ↦ rw (lt-ltb n (2 ^ 64) small) (of_z-to_z w64 n small)
  | inr large ↦ rw (le-ltb n (2 ^ 64) large) refl
]
