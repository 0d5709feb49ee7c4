-- Words filled with bits, one start after another.
use Rattle.std.proofs.Common.{◌≡◌, ◌≢◌, ℕ, ◌+◌, ◌*◌, ◌/◌, ◌%◌, ◌^◌, ◌<◌, ◌≤◌, inl, inr, false, List, [], ◌∷◌, ◌++◌, length, slice_get, Some, bit_or, refl, sym, ap, ◌∙◌, arith, add-one, lit<}
use Rattle.std.proofs.lemmas.List.{length_push, length-map, map_push}
use Rattle.std.proofs.lemmas.Nat.{mod_below}
use Rattle.std.proofs.lemmas.Option.{slice_get_within}
use Rattle.std.proofs.Math.Nat.{div-add-mod}
use Rattle.grain_code.specs.declared.starts.Word.{Word}
use Rattle.grain_code.specs.Starts.{Filling, IsGrowing, all_bits, is_set, set_below, bits_of, starts_in, IsCounted}
use Rattle.grain_code.proofs.SetBelow.{below_set, gap, alike, listed_cases}
use Rattle.grain_code.proofs.Words.{past, no_bits, set_here, set_elsewhere}

pub filling_none : Filling [] 0 0 0 0 []
filling_none = record {
  below = refl;
  clear = λ b from. no_bits [] b ∙ past [] b (omega arith);
  closed = λ i word is. absurd (cc);
  opened = refl;
  counted = refl;
}

-- a start more, in the word that is open
pub filling_start : (words : List Word) (before bits count at next : ℕ) (starts : List ℕ) → length words ≡ at / 64 → at < next → Filling words before bits count at starts
    → Filling words before (bit_or bits (1 * 2 ^ (at % 64) % 2 ^ 64)) (count + 1) next (starts ++ at ∷ [])
filling_start words before bits count at next starts last ahead filling =
    let old = all_bits words bits in
    let new = all_bits words (bit_or bits (1 * 2 ^ (at % 64) % 2 ^ 64)) in
    let long : length (bits_of words) ≡ at / 64 = length-map words (λ (w : Word). w.bits) ∙ last in
    let other : (b : ℕ) → b ≢ at → is_set new b ≡ is_set old b = λ b apart. set_elsewhere (bits_of words) bits at b long apart in
    let clear : (b : ℕ) → at < b → is_set new b ≡ false = λ b from. other b (omega arith) ∙ filling.clear b (omega arith) in
    let kept : (n : ℕ) → n ≤ at → set_below new n ≡ set_below old n = λ n fits. alike new old n (λ b lower. other b (omega arith)) in
    let open_fits : 64 * length words ≤ at = omega (arith, last, div-add-mod at 64) in
    record {
      below = gap new (at + 1) next (omega arith) (λ b from. clear b (omega arith)) ∙ rw add-one (below_set new at (set_here (bits_of words) bits at long))
          ∙ ap (λ xs. xs ++ at ∷ []) (kept at (omega arith) ∙ filling.below);
      clear = λ b from. clear b (omega arith);
      closed = λ i word is. filling.closed i word is ∙ ap length (sym (kept (64 * i) (omega (arith, open_fits, slice_get_within words i word is))));
      opened = filling.opened ∙ ap length (sym (kept (64 * length words) open_fits));
      counted = omega (arith, filling.counted, length_push starts at);
    }

-- a start more behind the front, before the words that end in front of it are closed
pub grown_start : (words : List Word) (before bits count at next capacity : ℕ) → at < next → IsGrowing words before bits count at capacity
    → Filling words before (bit_or bits (1 * 2 ^ (at % 64) % 2 ^ 64)) (count + 1) next (set_below (all_bits words bits) at ++ at ∷ [])
grown_start words before bits count at next capacity ahead grown = filling_start words before bits count at next (set_below (all_bits words bits) at) grown.opened ahead grown.filling

-- with the open word closed, each word counts those before it
closed_more : (words : List Word) (before bits count at : ℕ) (starts : List ℕ) → Filling words before bits count at starts
    → (i : ℕ) (word : Word) → slice_get (words ++ record { before = before; bits = bits } ∷ []) i ≡ Some word → word.before ≡ length (set_below (all_bits words bits) (64 * i))
closed_more words before bits count at starts filling i word is = elim (listed_cases words _ i word is) [
  | inl there ↦ filling.closed i word there
  | inr last ↦ ap (λ (w : Word). w.before) (sym last.1) ∙ filling.opened ∙ ap (λ n. length (set_below (all_bits words bits) (64 * n))) (sym last.0)
]

bits_of_more : (words : List Word) (before bits : ℕ) → bits_of (words ++ record { before = before; bits = bits } ∷ []) ≡ all_bits words bits
bits_of_more words before bits = map_push (λ (w : Word). w.bits) words (record { before = before; bits = bits })

-- the open word is closed, and the next one opened
pub filling_word : (words : List Word) (before bits count at : ℕ) (starts : List ℕ) → length words < at / 64 → Filling words before bits count at starts
    → Filling (words ++ record { before = before; bits = bits } ∷ []) count 0 count at starts
filling_word words before bits count at starts early filling =
    let old = all_bits words bits in
    let more = words ++ record { before = before; bits = bits } ∷ [] in
    let new = all_bits more 0 in
    let same : (b : ℕ) → is_set new b ≡ is_set old b = λ b. ap (λ (bs : List ℕ). is_set (bs ++ 0 ∷ []) b) (bits_of_more words before bits) ∙ no_bits old b in
    let kept : (n : ℕ) → set_below new n ≡ set_below old n = λ n. alike new old n (λ b _. same b) in
    let long : length more ≡ length words + 1 = length_push words _ in
    let words_end : length old ≡ length words + 1 = length_push (bits_of words) bits ∙ ap (λ n. n + 1) (length-map words (λ (w : Word). w.bits)) in
    let fits : 64 * length more ≤ at = omega (arith, long, early, div-add-mod at 64) in
    record {
      below = kept at ∙ filling.below;
      clear = λ b from. same b ∙ filling.clear b from;
      closed = λ i word is. closed_more words before bits count at starts filling i word is ∙ ap length (sym (kept (64 * i)));
      opened = filling.counted ∙ ap length (sym filling.below ∙ gap old (64 * length more) at fits (λ b from. past old b (omega arith)) ∙ sym (kept (64 * length more)));
      counted = filling.counted;
    }

-- the last word is closed: these are the starts, and they are counted
pub filled : (words : List Word) (before bits count at : ℕ) (starts : List ℕ) → at / 64 ≤ length words → Filling words before bits count at starts
    → let all = words ++ record { before = before; bits = bits } ∷ [] in (starts_in all ≡ starts) × IsCounted all count
filled words before bits count at starts late filling =
    let all = words ++ record { before = before; bits = bits } ∷ [] in
    let old = all_bits words bits in
    let is = bits_of_more words before bits in
    let long : length all ≡ length words + 1 = length_push words _ in
    let fits : at ≤ 64 * length all = omega (arith, long, late, div-add-mod at 64, mod_below at 64 (lit< tt)) in
    let these : starts_in all ≡ starts = ap (λ (bs : List ℕ). set_below bs (64 * length all)) is ∙ gap old at (64 * length all) fits filling.clear ∙ filling.below in (
      these,
      record {
        before = λ i word here. closed_more words before bits count at starts filling i word here ∙ ap (λ (bs : List ℕ). length (set_below bs (64 * i))) (sym is);
        all = filling.counted ∙ ap length (sym these);
      },
    )
