-- The numbers that are sets of a step's flags.
use Rattle.std.proofs.Common.{◌≡◌, ◌<◌, ◌%◌, ◌↔◌, ◌∙◌, ℕ, refl, sym, arith}
use Rattle.std.specs.Int.RustNames.{bit_and}
use Rattle.std.proofs.lemmas.Nat.{and_mask}
use Rattle.bitflags.specs.Sets.{known_bits, known_from}
use Rattle.grain_pools.specs.StepBits.{flags_table}

pub all_flags : known_bits flags_table ≡ 1
unfolding known_from
all_flags = refl

pub known_flags : (bits : ℕ) → (bit_and bits (known_bits flags_table) ≡ bits) ↔ (bits < 2)
known_flags bits =
    let masked : bit_and bits (known_bits flags_table) ≡ bits % 2 = rw all_flags (and_mask bits 1) in (
      λ h. (let e : bits % 2 ≡ bits = sym masked ∙ h in omega arith),
      λ h. masked ∙ omega arith,
    )
