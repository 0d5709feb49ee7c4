-- Numbers to the base 16, with zeros before them.
use Rattle.std.proofs.Common.{◌≡◌, ℕ, List, [], ◌++◌, ◌-◌, ◌^◌, length, replicate, false, refl, arith, append-nil}
use Rattle.std.specs.Fmt.{char_count, padded_integral, format_spec}

-- a number at 16 places, with zeros before it
pub padded_half : (numeral : List ℕ) → padded_integral (format_spec 32 0 4 16 (2 ^ 64 - 1)) false [] numeral ≡ replicate (16 - length numeral) 48 ++ numeral
unfolding padded_integral char_count
padded_half numeral =
    let short : 16 - length numeral - 0 - 0 ≡ 16 - length numeral = omega arith in
    rw (short, append-nil numeral) refl
