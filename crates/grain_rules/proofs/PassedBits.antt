-- A bit for each entry that has passed.
use Rattle.std.proofs.Common.{◌≡◌, ◌⊎◌, ℕ, ◌*◌, ◌/◌, ◌%◌, ◌^◌, ◌<◌, List, length, get_or, set, replicate, sym, ap, ◌∙◌, inl, inr, bit_or, w64, arith, ◌≢◌, lit<}
use Rattle.std.proofs.lemmas.Bool.{cases_eq, cases_lt}
use Rattle.std.proofs.lemmas.List.{get_or-replicate, get_or-set_same, get_or-set_other, get_or_past, length-replicate, set_past}
use Rattle.std.proofs.lemmas.Nat.{mod_below}
use Rattle.std.proofs.lemmas.Nat.Bits.{bit_at-zero, bit_at_set_same, bit_at_set_other}
use Rattle.std.proofs.Math.Nat.{div-add-mod}
use Rattle.std.specs.Int.{bit_at}

abbrev pub zeros : ℕ → List ℕ
zeros n = replicate n 0

zero_at : (n i : ℕ) → get_or (zeros n) i 0 ≡ 0
zero_at n i = elim (cases_lt i n) as (λ _. get_or (zeros n) i 0 ≡ 0) [
  | inl below ↦ get_or-replicate n i 0 0 below
  | inr past ↦ get_or_past (zeros n) i 0 (omega (arith, past, length-replicate {A = ℕ} n 0))
]

-- in words of zeros nothing has passed
pub nothing_passed : (n i j : ℕ) → bit_at (get_or (zeros n) i 0) j ≡ 1 → ⊥
nothing_passed n i j is =
    let none : bit_at (get_or (zeros n) i 0) j ≡ 0 = ap (λ w. bit_at w j) (zero_at n i) ∙ bit_at-zero j in
    omega (arith, is, none)

-- the words with the bit of an entry set
abbrev pub with_bit : List ℕ → ℕ → List ℕ
with_bit words i = set words (i / 64) (bit_or (get_or words (i / 64) 0) (1 * 2 ^ (i % 64) % 2 ^ 64))

-- in the word of the entry all other bits stay
same_word : (words : List ℕ) (i k : ℕ) → k ≢ i % 64 → bit_at (get_or (with_bit words i) (i / 64) 0) k ≡ bit_at (get_or words (i / 64) 0) k
same_word words i k other = elim (cases_lt (i / 64) (length words)) as (λ _. bit_at (get_or (with_bit words i) (i / 64) 0) k ≡ bit_at (get_or words (i / 64) 0) k) [
  | inl inside ↦
      let y = bit_or (get_or words (i / 64) 0) (1 * 2 ^ (i % 64) % 2 ^ 64) in
      ap (λ w. bit_at w k) (get_or-set_same words (i / 64) y 0 inside) ∙ bit_at_set_other w64 (get_or words (i / 64) 0) (i % 64) (mod_below i 64 (lit< tt)) k other
  | inr past ↦ ap (λ ws. bit_at (get_or ws (i / 64) 0) k) (set_past words (i / 64) _ past)
]

-- what has passed then had passed, or is that entry
pub passed : (words : List ℕ) (i j : ℕ) → bit_at (get_or (with_bit words i) (j / 64) 0) (j % 64) ≡ 1 → (bit_at (get_or words (j / 64) 0) (j % 64) ≡ 1) ⊎ (j ≡ i)
passed words i j is = elim (cases_eq (j / 64) (i / 64)) as (λ _. (bit_at (get_or words (j / 64) 0) (j % 64) ≡ 1) ⊎ (j ≡ i)) [
  | inr apart ↦ inl (ap (λ w. bit_at w (j % 64)) (sym (get_or-set_other words (i / 64) (j / 64) _ 0 apart)) ∙ is)
  | inl same ↦ elim (cases_eq (j % 64) (i % 64)) as (λ _. (bit_at (get_or words (j / 64) 0) (j % 64) ≡ 1) ⊎ (j ≡ i)) [
    | inl bit ↦ inr (omega (arith, div-add-mod j 64, div-add-mod i 64, same, bit))
    | inr other ↦
        let kept = same_word words i (j % 64) other in
        inl (ap (λ n. bit_at (get_or words n 0) (j % 64)) same ∙ sym kept ∙ ap (λ n. bit_at (get_or (with_bit words i) n 0) (j % 64)) (sym same) ∙ is)
  ]
]

-- the entry has passed, where it has a word
pub passed_here : (words : List ℕ) (i : ℕ) → i / 64 < length words → bit_at (get_or (with_bit words i) (i / 64) 0) (i % 64) ≡ 1
passed_here words i inside =
    let y = bit_or (get_or words (i / 64) 0) (1 * 2 ^ (i % 64) % 2 ^ 64) in
    ap (λ w. bit_at w (i % 64)) (get_or-set_same words (i / 64) y 0 inside) ∙ bit_at_set_same w64 (get_or words (i / 64) 0) (i % 64) (mod_below i 64 (lit< tt))

-- what had passed still has
pub passed_still : (words : List ℕ) (i j : ℕ) → bit_at (get_or words (j / 64) 0) (j % 64) ≡ 1 → bit_at (get_or (with_bit words i) (j / 64) 0) (j % 64) ≡ 1
passed_still words i j is = elim (cases_lt (i / 64) (length words)) as (λ _. bit_at (get_or (with_bit words i) (j / 64) 0) (j % 64) ≡ 1) [
  | inr past ↦ ap (λ ws. bit_at (get_or ws (j / 64) 0) (j % 64)) (set_past words (i / 64) _ past) ∙ is
  | inl inside ↦ elim (cases_eq (j / 64) (i / 64)) as (λ _. bit_at (get_or (with_bit words i) (j / 64) 0) (j % 64) ≡ 1) [
    | inr apart ↦ ap (λ w. bit_at w (j % 64)) (get_or-set_other words (i / 64) (j / 64) _ 0 apart) ∙ is
    | inl same ↦ elim (cases_eq (j % 64) (i % 64)) as (λ _. bit_at (get_or (with_bit words i) (j / 64) 0) (j % 64) ≡ 1) [
      | inl bit ↦ ap (λ n. bit_at (get_or (with_bit words i) n 0) (j % 64)) same ∙ (ap (λ n. bit_at (get_or (with_bit words i) (i / 64) 0) n) bit ∙ passed_here words i inside)
      | inr other ↦
          ap (λ n. bit_at (get_or (with_bit words i) n 0) (j % 64)) same ∙ (same_word words i (j % 64) other ∙ (ap (λ n. bit_at (get_or words n 0) (j % 64)) (sym same) ∙ is))
    ]
  ]
]
