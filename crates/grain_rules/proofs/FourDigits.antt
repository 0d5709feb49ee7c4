-- What `{:04x}` writes.
use Rattle.std.proofs.Common.{◌≡◌, ℕ, ◌-◌, ◌^◌, false, [], ◌++◌, length, replicate, ap, ◌∙◌, arith, append-nil}
use Rattle.std.specs.Fmt.{char_count, digits, format_spec, padded_integral}
use Rattle.grain_rules.specs.Texts.{four_digits}

pub padded_to_four : (n : ℕ) → padded_integral (format_spec 32 0 4 4 (2 ^ 64 - 1)) false [] (digits 16 false n) ≡ four_digits n
unfolding padded_integral char_count
padded_to_four n =
    let short : 4 - length (digits 16 false n) - 0 - 0 ≡ 4 - length (digits 16 false n) = omega arith in
    ap (λ k. replicate k 48 ++ (digits 16 false n ++ [])) short ∙ ap (λ xs. replicate (4 - length (digits 16 false n)) 48 ++ xs) (append-nil (digits 16 false n))
