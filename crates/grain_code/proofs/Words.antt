-- Bits in words of 64, and how many of them are set below one.
use Rattle.std.proofs.Common.{◌≡◌, ◌≢◌, ℕ, zero, suc, ◌+◌, ◌*◌, ◌/◌, ◌%◌, ◌^◌, ◌<◌, ◌≤◌, inl, inr, ◌↔◌, true, false, eqb, nat_lt}
use Rattle.std.proofs.Common.{List, [], ◌∷◌, ◌++◌, length, get_or, slice_get, option_map, Some, None, bit_or, bit_and, ◌-◌, w64, refl, sym, ap, ◌∙◌, arith, lit<}
use Rattle.std.specs.Prelude.{count_by, count_ones}
use Rattle.std.specs.Int.{bit_at}
use Rattle.std.specs.List.{Contains}
use Rattle.std.proofs.lemmas.Bool.{cases_eq, eq-eqb, eqb-true}
use Rattle.std.proofs.lemmas.List.{get_or_past, get_or_push, length_push}
use Rattle.std.proofs.lemmas.Nat.{mod_below, pow_pos, ones_cat, mod-pow-add, one_shl, and_mask, ones_le_self, zero_from_ones}
use Rattle.std.proofs.lemmas.Nat.Bits.{bit_at-zero, bit_at-lt, bit_at_set_same, bit_at_set_other}
use Rattle.std.proofs.lemmas.Option.{slice_get-map, slice_get_within, slice_get_read, slice_get_past, get_or_from_slice_get}
use Rattle.std.proofs.Math.Nat.{div-add-mod}
use Rattle.grain_code.specs.declared.starts.Word.{Word}
use Rattle.grain_code.specs.Starts.{is_set, set_below, bits_of, starts_in, IsCounted}
use Rattle.grain_code.proofs.SetBelow.{below_set, below_unset, set_listed, listed_set, set_contained, contained_set, counted_below, few_below}

-- past the words no bit is set
pub past : (bits : List ℕ) (b : ℕ) → 64 * length bits ≤ b → is_set bits b ≡ false
past bits b out =
    let far : length bits ≤ b / 64 = omega (arith, out, div-add-mod b 64, mod_below b 64 (lit< tt)) in
    ap (λ w. eqb (bit_at w (b % 64)) 1) (get_or_past bits (b / 64) 0 far) ∙ ap (λ d. eqb d 1) (bit_at-zero (b % 64))

no_bits_at : (bits : List ℕ) (i : ℕ) → get_or (bits ++ 0 ∷ []) i 0 ≡ get_or bits i 0
no_bits_at [] zero = refl
no_bits_at [] (suc i) = refl
no_bits_at (w ∷ bits) zero = refl
no_bits_at (w ∷ bits) (suc i) = no_bits_at bits i

-- a word with no bit set changes nothing
pub no_bits : (bits : List ℕ) (b : ℕ) → is_set (bits ++ 0 ∷ []) b ≡ is_set bits b
no_bits bits b = ap (λ w. eqb (bit_at w (b % 64)) 1) (no_bits_at bits (b / 64))

-- the last word with the bit of an address set
abbrev pub with_bit : List ℕ → ℕ → ℕ → List ℕ
with_bit bits w at = bits ++ bit_or w (1 * 2 ^ (at % 64) % 2 ^ 64) ∷ []

pub set_here : (bits : List ℕ) (w at : ℕ) → length bits ≡ at / 64 → is_set (with_bit bits w at) at ≡ true
set_here bits w at last =
    ap (λ v. eqb (bit_at v (at % 64)) 1) (get_or_push bits (bit_or w (1 * 2 ^ (at % 64) % 2 ^ 64)) 0 (at / 64) last)
    ∙ ap (λ d. eqb d 1) (bit_at_set_same w64 w (at % 64) (mod_below at 64 (lit< tt)))

other_word : (bits : List ℕ) (v w i : ℕ) → i ≢ length bits → get_or (bits ++ v ∷ []) i 0 ≡ get_or (bits ++ w ∷ []) i 0
other_word [] v w zero apart = absurd (apart refl)
other_word [] v w (suc i) apart = refl
other_word (x ∷ bits) v w zero apart = refl
other_word (x ∷ bits) v w (suc i) apart = other_word bits v w i (λ e. apart (ap suc e))

-- all other bits stay
pub set_elsewhere : (bits : List ℕ) (w at b : ℕ) → length bits ≡ at / 64 → b ≢ at → is_set (with_bit bits w at) b ≡ is_set (bits ++ w ∷ []) b
set_elsewhere bits w at b last other = elim (cases_eq (b / 64) (at / 64)) [
  | inl same ↦
      let far : b % 64 ≢ at % 64 = λ bit. other (omega (arith, div-add-mod b 64, div-add-mod at 64, same, bit)) in
      let there : length bits ≡ b / 64 = last ∙ sym same in
      ap (λ v. eqb (bit_at v (b % 64)) 1) (get_or_push bits (bit_or w (1 * 2 ^ (at % 64) % 2 ^ 64)) 0 (b / 64) there)
      ∙ ap (λ d. eqb d 1) (bit_at_set_other w64 w (at % 64) (mod_below at 64 (lit< tt)) (b % 64) far)
      ∙ ap (λ v. eqb (bit_at v (b % 64)) 1) (sym (get_or_push bits w 0 (b / 64) there))
  | inr apart ↦ ap (λ v. eqb (bit_at v (b % 64)) 1) (other_word bits _ w (b / 64) (λ e. apart (e ∙ last)))
]

-- ---- counts

ones_bit : (d : ℕ) → d < 2 → count_ones d ≡ d
ones_bit zero small = omega (arith, ones_le_self 0)
ones_bit (suc zero) small =
    let some : count_ones 1 ≢ 0 = λ none. (let e = zero_from_ones 1 none in absurd (omega (arith, e))) in
    omega (arith, some, ones_le_self 1)
ones_bit (suc (suc d)) small = absurd (omega arith)

ones_more : (w j : ℕ) → count_ones (w % 2 ^ suc j) ≡ bit_at w j + count_ones (w % 2 ^ j)
ones_more w j =
    let next : suc j ≡ 1 + j = omega arith in
    ap (λ k. count_ones (w % 2 ^ k)) next ∙ ap count_ones (mod-pow-add w 1 j) ∙ ones_cat j (bit_at w j) (w % 2 ^ j) (mod_below w (2 ^ j) (pow_pos j))
    ∙ ap (λ n. n + count_ones (w % 2 ^ j)) (ones_bit (bit_at w j) (bit_at-lt w j))

one_longer : (bits : List ℕ) (n d : ℕ) → d < 2 → is_set bits n ≡ eqb d 1 → length (set_below bits (suc n)) ≡ length (set_below bits n) + d
one_longer bits n zero small is = ap length (below_unset bits n is) ∙ omega arith
one_longer bits n (suc zero) small is = ap length (below_set bits n is) ∙ length_push (set_below bits n) n
one_longer bits n (suc (suc d)) small is = absurd (omega arith)

bit_of : (bits : List ℕ) (i j : ℕ) → j < 64 → is_set bits (64 * i + j) ≡ eqb (bit_at (get_or bits i 0) j) 1
bit_of bits i j small =
    let word : (64 * i + j) / 64 ≡ i = omega arith in
    let bit : (64 * i + j) % 64 ≡ j = omega arith in
    ap (λ k. eqb (bit_at (get_or bits k 0) ((64 * i + j) % 64)) 1) word ∙ ap (λ k. eqb (bit_at (get_or bits i 0) k) 1) bit

-- of a word's bits, those below one are counted by the ones below it
pub word_ones : (bits : List ℕ) (i j : ℕ) → j ≤ 64 → length (set_below bits (64 * i + j)) ≡ length (set_below bits (64 * i)) + count_ones (get_or bits i 0 % 2 ^ j)
word_ones bits i zero fits =
    let same : 64 * i + 0 ≡ 64 * i = omega arith in
    let none : get_or bits i 0 % 2 ^ 0 ≡ 0 = omega (arith, mod_below (get_or bits i 0) (2 ^ 0) (lit< tt)) in
    ap (λ n. length (set_below bits n)) same ∙ omega (arith, ap count_ones none, ones_bit 0 (lit< tt))
word_ones bits i (suc j) fits =
    let next : 64 * i + suc j ≡ suc (64 * i + j) = omega arith in
    let w = get_or bits i 0 in
    omega (arith, ap (λ n. length (set_below bits n)) next, one_longer bits (64 * i + j) (bit_at w j) (bit_at-lt w j) (bit_of bits i j (omega arith)), word_ones bits i j (omega arith), ones_more w j)

-- ---- what words answer of an address

-- the word that was read at an index, or that there is none
pub read_some : (slice words : List Word) (i : ℕ) (word : Word) → slice ≡ words → i < length slice → word ≡ get_or slice i word → slice_get words i ≡ Some word
read_some slice words i word same inside read = ap (λ (ws : List Word). slice_get ws i) (sym same) ∙ slice_get_read slice (length slice) i word refl inside read

pub read_none : (slice words : List Word) (i : ℕ) → slice ≡ words → length slice ≤ i → slice_get words i ≡ None
read_none slice words i same out = ap (λ (ws : List Word). slice_get ws i) (sym same) ∙ slice_get_past slice i out

word_is : (words : List Word) (i : ℕ) (word : Word) → slice_get words i ≡ Some word → get_or (bits_of words) i 0 ≡ word.bits
word_is words i word is =
    get_or_from_slice_get (bits_of words) i word.bits 0 (slice_get-map (λ (w : Word). w.bits) words i ∙ ap (λ o. option_map (λ (w : Word). w.bits) o) is)

inside_of : (words : List Word) (at : ℕ) (word : Word) → slice_get words (at / 64) ≡ Some word → at < 64 * length words
inside_of words at word is = omega (arith, slice_get_within words (at / 64) word is, div-add-mod at 64, mod_below at 64 (lit< tt))

set_is : (words : List Word) (at : ℕ) (word : Word) → slice_get words (at / 64) ≡ Some word → is_set (bits_of words) at ≡ eqb (bit_at word.bits (at % 64)) 1
set_is words at word is = ap (λ w. eqb (bit_at w (at % 64)) 1) (word_is words (at / 64) word is)

-- where an address has a word, its bit there tells whether it is a start
pub bit_contained : (words : List Word) (at : ℕ) (word : Word) → slice_get words (at / 64) ≡ Some word → (eqb (bit_at word.bits (at % 64)) 1 ≡ true) ↔ Contains (starts_in words) at
bit_contained words at word is = (
  λ one. set_contained (bits_of words) (64 * length words) at (inside_of words at word is) (set_is words at word is ∙ one),
  λ here. sym (set_is words at word is) ∙ (contained_set (bits_of words) (64 * length words) at here).1,
)

-- where it has none, it is no start
pub past_contained : (words : List Word) (at : ℕ) → slice_get words (at / 64) ≡ None → Contains (starts_in words) at → ⊥
past_contained words at none here =
    let inside = (contained_set (bits_of words) (64 * length words) at here).0 in
    let there : at / 64 < length words = omega (arith, inside, div-add-mod at 64) in
    present words (at / 64) there none
  where
    present : (words : List Word) (i : ℕ) → i < length words → slice_get words i ≡ None → ⊥
    present [] i inside none = absurd (omega arith)
    present (w ∷ words) zero inside none = cc
    present (w ∷ words) (suc i) inside none = present words i (omega arith) none

-- the count of the starts that are lower than an address
abbrev pub place_of : Word → ℕ → ℕ
place_of word at = word.before + count_ones (bit_and word.bits (1 * 2 ^ (at % 64) % 2 ^ 64 - 1))

pub place_is : (words : List Word) (count at : ℕ) (word : Word) → IsCounted words count → slice_get words (at / 64) ≡ Some word → place_of word at ≡ length (set_below (bits_of words) at)
place_is words count at word counted is =
    let cut : 64 * (at / 64) + at % 64 ≡ at = div-add-mod at 64 in
    let small : at % 64 < 64 = mod_below at 64 (lit< tt) in
    let mask : bit_and word.bits (1 * 2 ^ (at % 64) % 2 ^ 64 - 1) ≡ word.bits % 2 ^ (at % 64) = ap (λ n. bit_and word.bits (n - 1)) (one_shl (at % 64) 64 small) ∙ and_mask word.bits (at % 64) in
    let here : count_ones (get_or (bits_of words) (at / 64) 0 % 2 ^ (at % 64)) ≡ count_ones (word.bits % 2 ^ (at % 64)) = ap (λ w. count_ones (w % 2 ^ (at % 64))) (word_is words (at / 64) word is) in
    omega (arith, ap count_ones mask, counted.before (at / 64) word is, ap (λ n. length (set_below (bits_of words) n)) cut, word_ones (bits_of words) (at / 64) (at % 64) (omega (arith, small)), here)

pub place_fits : (words : List Word) (count at : ℕ) (word : Word) → IsCounted words count → slice_get words (at / 64) ≡ Some word → place_of word at ≤ at
place_fits words count at word counted is = omega (arith, place_is words count at word counted is, few_below (bits_of words) at)

-- a start has its place among the starts, and no other
pub placed : (words : List Word) (count at : ℕ) (word : Word) → IsCounted words count → slice_get words (at / 64) ≡ Some word → bit_at word.bits (at % 64) ≢ 0
    → (k : ℕ) → (Some (place_of word at) ≡ Some k) ↔ (slice_get (starts_in words) k ≡ Some at)
placed words count at word counted is some k =
    let place = place_is words count at word counted is in
    let one : bit_at word.bits (at % 64) ≡ 1 = omega (arith, some, bit_at-lt word.bits (at % 64)) in (
      λ e. (let same : place_of word at ≡ k = cc in
          ap (slice_get (starts_in words)) (sym same ∙ place) ∙ set_listed (bits_of words) (64 * length words) at (inside_of words at word is) (set_is words at word is ∙ eq-eqb _ 1 one)),
      λ here. ap (λ (n : ℕ). Some n) (place ∙ sym (listed_set (bits_of words) (64 * length words) k at here).2),
    )

pub placed_below : (words : List Word) (count at : ℕ) (word : Word) → IsCounted words count → slice_get words (at / 64) ≡ Some word → place_of word at ≡ count_by (λ s. nat_lt s at) (starts_in words)
placed_below words count at word counted is =
    let inside : at ≤ 64 * length words = omega (arith, inside_of words at word is) in
    place_is words count at word counted is ∙ sym (counted_below (bits_of words) at (64 * length words) inside)

-- an address that is no start has no place
unplaced : (words : List Word) (at : ℕ) → (Contains (starts_in words) at → ⊥) → (k : ℕ) → (None ≡ Some k) ↔ (slice_get (starts_in words) k ≡ Some at)
unplaced words at none k = (
  λ e. absurd (cc),
  λ here. absurd (none (k, slice_get_within (starts_in words) k at here, get_or_from_slice_get (starts_in words) k at at here)),
)

pub unset_unplaced : (words : List Word) (at : ℕ) (word : Word) → slice_get words (at / 64) ≡ Some word → bit_at word.bits (at % 64) ≡ 0 → (k : ℕ) → (None ≡ Some k) ↔ (slice_get (starts_in words) k ≡ Some at)
unset_unplaced words at word is zero_there =
    unplaced words at (λ here. (let one = eqb-true (bit_at word.bits (at % 64)) 1 ((bit_contained words at word is).1 here) in omega (arith, one, zero_there)))

pub past_unplaced : (words : List Word) (at : ℕ) → slice_get words (at / 64) ≡ None → (k : ℕ) → (None ≡ Some k) ↔ (slice_get (starts_in words) k ≡ Some at)
past_unplaced words at none = unplaced words at (past_contained words at none)
