-- The numbers that are sets of capabilities.
use Rattle.std.proofs.Common.{◌≡◌, ◌<◌, ◌^◌, ◌%◌, ◌↔◌, ◌∙◌, ℕ, refl, sym, arith}
use Rattle.std.specs.Int.RustNames.{bit_and}
use Rattle.std.proofs.lemmas.Nat.{and_mask}
use Rattle.bitflags.specs.Sets.{known_bits, known_from}
use Rattle.grain_base.specs.CapBits.{caps_table}

pub all_caps : known_bits caps_table ≡ 0x7fff
unfolding known_from
all_caps = refl

pub known_caps : (bits : ℕ) → (bit_and bits (known_bits caps_table) ≡ bits) ↔ (bits < 2 ^ 15)
known_caps bits =
    let masked : bit_and bits (known_bits caps_table) ≡ bits % 2 ^ 15 = rw all_caps (and_mask bits 15) in (
      λ h. (let e : bits % 2 ^ 15 ≡ bits = sym masked ∙ h in omega arith),
      λ h. masked ∙ omega arith,
    )
