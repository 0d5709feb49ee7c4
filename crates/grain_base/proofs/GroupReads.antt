-- Reading the number at a place of bytes, group by group.
use Rattle.std.proofs.Common.{◌≡◌, ℕ, zero, suc, ◌+◌, ◌-◌, ◌*◌, ◌%◌, ◌^◌, ◌<◌, ◌≤◌, inl, inr, List, [], ◌∷◌, ◌++◌, length, take, drop, get_or, All, bit_and, bit_or, refl, sym, ap, subst, ◌∙◌, arith}
use Rattle.std.proofs.Math.Nat.{pow-suc}
use Rattle.std.proofs.lemmas.Bool.{cases_lt}
use Rattle.std.proofs.lemmas.List.{take_more, take_all, take-take, length-take, length-take-le, length-drop, length_push, get_or-drop, get_or-take, get_or_past, get_or_push}
use Rattle.std.proofs.lemmas.List.Elements.{All-nil, All-more, All-take}
use Rattle.std.proofs.lemmas.Nat.{pow-add, and_mask, or_comm, or_shifted, shl_whole}
use Rattle.grain_base.specs.declared.varint.Error.TheVariants.{Truncated, Overflow}
use Rattle.grain_base.specs.Varint.{number_of, NumberStandsAt, NoneStands, NumberFlaw}
use Rattle.grain_base.proofs.Groups.{GoesOn, number_of-push, number_of-below, groups_push, none_ends}

-- From a place of the bytes on, this many groups go on. Their number is the value, and the cursor stands behind them.
pub record Passes (bytes : List ℕ) (from count value at : ℕ) : Type 0 where
  pub here : at ≡ from + count
  pub inside : count ≤ length (drop from bytes)
  pub go_on : All GoesOn (take count (drop from bytes))
  pub number : number_of (take count (drop from bytes)) ≡ value

pub passes_none : (bytes : List ℕ) (from : ℕ) → Passes bytes from 0 0 from
passes_none bytes from = record { here = omega arith; inside = omega arith; go_on = All-nil GoesOn; number = refl }

-- the byte at the cursor is the next one
front_more : (bytes : List ℕ) (from count value at byte : ℕ) → Passes bytes from count value at → at < length bytes → byte ≡ get_or bytes at 0
    → (count < length (drop from bytes)) × (get_or (drop from bytes) count 0 ≡ byte) × (take (count + 1) (drop from bytes) ≡ take count (drop from bytes) ++ byte ∷ [])
front_more bytes from count value at byte passed within read =
    let inside : count < length (drop from bytes) = omega (arith, length-drop from bytes, passed.here) in
    let here : get_or (drop from bytes) count 0 ≡ byte = get_or-drop from bytes count 0 ∙ ap (λ i. get_or bytes i 0) (sym passed.here) ∙ sym read in
    (inside, here, take_more (drop from bytes) count 0 inside ∙ ap (λ b. take count (drop from bytes) ++ b ∷ []) here)

power : (count : ℕ) → 128 ^ count ≡ 2 ^ (7 * count)
power zero = refl
power (suc count) = omega (arith, pow-suc 128 count, power count, ap (λ n. 2 ^ n) (seven_more count) ∙ pow-add 2 7 (7 * count))
  where
    seven_more : (n : ℕ) → 7 * suc n ≡ 7 + 7 * n
    seven_more n = omega arith

-- the bits of one more group, laid over the value
added : (bytes : List ℕ) (from count value at low j : ℕ) → Passes bytes from count value at → low < 2 ^ j → j + 7 * count ≤ 64
    → bit_or value (low * 2 ^ (7 * count) % 2 ^ 64) ≡ value + low * 128 ^ count
added bytes from count value at low j passed small fits =
    let below : value < 2 ^ (7 * count) = omega (arith, number_of-below (take count (drop from bytes)), passed.number, ap (λ n. 128 ^ n) (length-take-le count (drop from bytes) passed.inside), power count) in
    rw (shl_whole low j (7 * count) 64 small fits) (
    or_comm value (low * 2 ^ (7 * count)) ∙ or_shifted low (7 * count) value below ∙ omega (arith, ap (λ n. low * n) (power count)))

pub value_more : (bytes : List ℕ) (from count value at byte low : ℕ) → Passes bytes from count value at → low ≡ bit_and byte 127 → count ≤ 8
    → bit_or value (low * 2 ^ (7 * count) % 2 ^ 64) ≡ value + byte % 128 * 128 ^ count
value_more bytes from count value at byte low passed masked eight =
    let seven : low ≡ byte % 128 = masked ∙ and_mask byte 7 in
    rw seven (added bytes from count value at (byte % 128) 7 passed (omega arith) (omega arith))

pub value_last : (bytes : List ℕ) (from value at byte low : ℕ) → Passes bytes from 9 value at → low ≡ byte → byte ≤ 1
    → bit_or value (low * 2 ^ 63 % 2 ^ 64) ≡ value + byte % 128 * 128 ^ 9
value_last bytes from value at byte low passed same small =
    let one : low ≡ byte % 128 = omega arith in
    rw one (added bytes from 9 value at (byte % 128) 1 passed (omega arith) (omega arith))

pub passes_more : (bytes : List ℕ) (from count value at byte : ℕ) → Passes bytes from count value at → at < length bytes → byte ≡ get_or bytes at 0 → 0x80 ≤ byte
    → Passes bytes from (count + 1) (value + byte % 128 * 128 ^ count) (at + 1)
passes_more bytes from count value at byte passed within read more =
    let next = front_more bytes from count value at byte passed within read in
    record {
      here = omega (arith, passed.here);
      inside = omega (arith, next.0);
      go_on = All-more GoesOn (drop from bytes) count 0 next.0 passed.go_on (subst GoesOn (sym next.1) more);
      number = ap number_of next.2 ∙ number_of-push (take count (drop from bytes)) byte ∙ omega (arith, passed.number, ap (λ n. byte % 128 * 128 ^ n) (length-take-le count (drop from bytes) passed.inside));
    }

pub stands : (bytes : List ℕ) (from count value at byte : ℕ) → Passes bytes from count value at → at < length bytes → byte ≡ get_or bytes at 0 → byte < 0x80 → count ≤ 9 → (count ≡ 9 → byte ≤ 1)
    → NumberStandsAt bytes from (value + byte % 128 * 128 ^ count) (at + 1)
stands bytes from count value at byte passed within read last ten tenth =
    let next = front_more bytes from count value at byte passed within read in
    let front = take count (drop from bytes) in
    let long : length front ≡ count = length-take-le count (drop from bytes) passed.inside in
    let taken : at + 1 - from ≡ count + 1 = omega (arith, passed.here) in (
      omega arith,
      rw (taken, next.2) (record {
        groups = groups_push front byte passed.go_on last;
        at_most_ten = omega (arith, length_push front byte);
        tenth = elim (cases_lt count 9) [
          | inl less ↦ omega (arith, get_or_past (front ++ byte ∷ []) 9 0 (omega (arith, length_push front byte)))
          | inr more ↦ let nine : count ≡ 9 = omega arith in omega (arith, tenth nine, get_or_push front byte 0 9 (omega arith))
        ];
        number = number_of-push front byte ∙ omega (arith, passed.number, ap (λ n. byte % 128 * 128 ^ n) long);
      }),
    )

-- the bytes end where another group is due
pub cut_short : (bytes : List ℕ) (from count value at : ℕ) → Passes bytes from count value at → length bytes ≤ at → count ≤ 9
    → NumberFlaw (drop from bytes) Truncated × (at ≡ from + length (take 10 (drop from bytes)))
cut_short bytes from count value at passed end ten =
    let long : length (drop from bytes) ≡ count = omega (arith, length-drop from bytes, passed.here, passed.inside) in
    let whole = take_all count (drop from bytes) (omega arith) in
    ((omega arith, subst (λ (xs : List ℕ). All GoesOn xs) whole passed.go_on), omega (arith, passed.here, length-take 10 (drop from bytes)))

-- the tenth group is too great, or isn't the last
pub too_wide : (bytes : List ℕ) (from value at byte : ℕ) → Passes bytes from 9 value at → at < length bytes → byte ≡ get_or bytes at 0 → 1 < byte
    → NumberFlaw (drop from bytes) Overflow × (at + 1 ≡ from + length (take 10 (drop from bytes)))
too_wide bytes from value at byte passed within read wide =
    let next = front_more bytes from 9 value at byte passed within read in
    let none : NoneStands (drop from bytes) = λ taken n spelled. elim (cases_lt taken 10) [
      | inl less ↦ none_ends (take taken (drop from bytes)) (subst (λ (xs : List ℕ). All GoesOn xs) (take-take taken 9 (drop from bytes) (omega arith))
          (All-take GoesOn taken (take 9 (drop from bytes)) passed.go_on)) spelled.groups
      | inr more ↦ absurd (omega (arith, spelled.tenth, get_or-take taken (drop from bytes) 9 0 (omega arith), next.1))
    ] in
    ((none, λ short. absurd (omega (arith, short.0, next.0))), omega (arith, passed.here, length-take 10 (drop from bytes), next.0))
