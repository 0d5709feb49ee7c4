-- Which capabilities suffice, bit by bit.
use Rattle.std.proofs.Common.{◌≡◌, ℕ, ◌-◌, ◌^◌, ◌<◌, ◌≤◌, ◌∙◌, bit_or, inl, inr, ap, arith}
use Rattle.std.specs.Int.{bit_at}
use Rattle.std.specs.Int.RustNames.{bit_and}
use Rattle.std.proofs.lemmas.Bool.{cases_lt}
use Rattle.std.proofs.lemmas.Nat.{and_le_r, and_or_apart, le_or_l, le_or_r}
use Rattle.std.proofs.lemmas.Nat.Bits.{bit_at-lt, bit_at-zero, bit_at_and, bit_at_or, bit_at_not, same_from_bits_below}
use Rattle.std.specs.Int.{w16}
use Rattle.grain_rules.specs.Capabilities.{Allows}

-- each of the 16 bits that is set among those that are needed is set among those that are there
abbrev pub Covers : ℕ → ℕ → Type 0
Covers caps needed = (i : ℕ) → i < 16 → bit_at needed i ≤ bit_at caps i

pub allows_covers : (caps needed : ℕ) → caps < 2 ^ 16 → Allows caps needed → Covers caps needed
allows_covers caps needed fits h i below =
    let none : bit_at (bit_and needed (2 ^ 16 - 1 - caps)) i ≡ 0 = ap (λ n. bit_at n i) h ∙ bit_at-zero i in
    let both = bit_at_and needed (2 ^ 16 - 1 - caps) i in
    let rest : bit_at (2 ^ 16 - 1 - caps) i ≡ 1 - bit_at caps i = bit_at_not w16 caps i fits below in
    let one = bit_at-lt needed i in
    omega arith

pub covers_allows : (caps needed : ℕ) → caps < 2 ^ 16 → Covers caps needed → Allows caps needed
covers_allows caps needed fits h =
    let all = 2 ^ 16 - 1 - caps in
    let small : bit_and needed all < 2 ^ 16 = let l = and_le_r needed all in omega arith in
    same_from_bits_below 16 (bit_and needed all) 0 small (omega arith) (λ i below.
    let both = bit_at_and needed all i in
    let rest : bit_at all i ≡ 1 - bit_at caps i = bit_at_not w16 caps i fits below in
    let one = bit_at-lt caps i in
    let here = h i below in
    let none = bit_at-zero i in
    omega arith)

-- what suffices for two sets suffices for both together
pub allows_both : (caps a b : ℕ) → Allows caps a → Allows caps b → Allows caps (bit_or a b)
allows_both caps a b first second = and_or_apart (2 ^ 16 - 1 - caps) a b second ∙ first

-- capabilities of more than 16 bits suffice for whatever is needed
all_allow : (caps needed : ℕ) → 2 ^ 16 ≤ caps → Allows caps needed
all_allow caps needed large = let none : 2 ^ 16 - 1 - caps ≡ 0 = omega arith in ap (bit_and needed) none ∙ omega (arith, and_le_r needed 0)

-- a set suffices for itself
pub allows_itself : (caps : ℕ) → Allows caps caps
allows_itself caps = elim (cases_lt caps (2 ^ 16)) [
  | inl fits ↦ covers_allows caps caps fits (λ i below. omega arith)
  | inr large ↦ all_allow caps caps large
]

-- more capabilities suffice for as much
pub more_allows : (caps more needed : ℕ) → Allows caps needed → Allows (bit_or caps more) needed
more_allows caps more needed h = elim (cases_lt (bit_or caps more) (2 ^ 16)) [
  | inl fits ↦ covers_allows (bit_or caps more) needed fits (λ i below.
      let here = allows_covers caps needed (let l = le_or_l caps more in omega arith) h i below in
      let both = bit_at_or caps more i in
      omega arith)
  | inr large ↦ all_allow (bit_or caps more) needed large
]

pub others_allow : (caps more needed : ℕ) → Allows more needed → Allows (bit_or caps more) needed
others_allow caps more needed h = elim (cases_lt (bit_or caps more) (2 ^ 16)) [
  | inl fits ↦ covers_allows (bit_or caps more) needed fits (λ i below.
      let here = allows_covers more needed (let l = le_or_r caps more in omega arith) h i below in
      let both = bit_at_or caps more i in
      omega arith)
  | inr large ↦ all_allow (bit_or caps more) needed large
]
