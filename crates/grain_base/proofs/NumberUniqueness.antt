-- Of the numbers that stand at a place there is one at most, and where there is none one error says why.
use Rattle.std.proofs.Common.{◌≡◌, ℕ, ℤ, pos, negsuc, ◌+◌, ◌-◌, ◌*◌, ◌/◌, ◌%◌, ◌^◌, ◌<◌, ◌≤◌, ◌≢◌, ◌↔◌, inl, inr, bit_and}
use Rattle.std.proofs.Common.{List, ◌++◌, length, take, drop, get_or, slice_range, Result, Ok, Err, IfOk, OnErr, refl, sym, ap, subst, ◌∙◌, arith}
use Rattle.std.proofs.lemmas.List.{take-append-drop, length-take, length-drop}
use Rattle.std.specs.Int.{w64, cast_signed}
use Rattle.std.proofs.lemmas.Int.{ints}
use Rattle.std.proofs.lemmas.Nat.{and_mask}
use Rattle.std.proofs.lemmas.List.Elements.{All-take}
use Rattle.grain_base.specs.declared.varint.Error.{Error}
use Rattle.grain_base.specs.declared.varint.Error.TheVariants.{Truncated, Overflow}
use Rattle.grain_base.specs.Varint.{number_of, Spells, NumberStandsAt, IsCutShort, NoneStands, NumberFlaw, U32Flaw, ReadsNumber, zigzag}
use Rattle.grain_base.proofs.Groups.{GoesOn, groups_some, none_ends, one_front}
use Rattle.grain_base.proofs.GroupReads.{passes_none, stands}

-- no spelling begins another
pub one_spelling : (a b x y : List ℕ) (m n : ℕ) → Spells a m → Spells b n → a ++ x ≡ b ++ y → (a ≡ b) × (m ≡ n) × (x ≡ y)
one_spelling a b x y m n first second same =
    let one = one_front a b x y first.groups second.groups same in
    (one.0, sym first.number ∙ ap number_of one.0 ∙ second.number, one.1)

-- what spelled numbers at a place have in common with its end
pub stands_within : (bytes : List ℕ) (from n to : ℕ) → NumberStandsAt bytes from n to → (from < to) × (length (slice_range bytes from to) ≡ to - from)
stands_within bytes from n to standing =
    let some = groups_some (slice_range bytes from to) standing.1.groups in
    let long = length-take (to - from) (drop from bytes) in
    let rest = length-drop from bytes in
    (omega arith, omega (arith, standing.0))

pub stands_once : (bytes : List ℕ) (from m n to end : ℕ) → NumberStandsAt bytes from m to → NumberStandsAt bytes from n end → (m ≡ n) × (to ≡ end)
stands_once bytes from m n to end first second =
    let same = take-append-drop (to - from) (drop from bytes) ∙ sym (take-append-drop (end - from) (drop from bytes)) in
    let one = one_spelling (slice_range bytes from to) (slice_range bytes from end) _ _ m n first.1 second.1 same in
    let a = stands_within bytes from m to first in
    let b = stands_within bytes from n end second in
    (one.1, omega (arith, ap length one.0, a.0, a.1, b.0, b.1))

-- where bytes are cut short, no spelling stands
pub cut_stands : (bytes : List ℕ) → IsCutShort bytes → NoneStands bytes
cut_stands bytes short taken n spelled = none_ends (take taken bytes) (All-take GoesOn taken bytes short.1) spelled.groups

pub flaw_stands : (bytes : List ℕ) (error : Error) → NumberFlaw bytes error → NoneStands bytes
flaw_stands bytes Truncated flaw = cut_stands bytes flaw
flaw_stands bytes Overflow flaw = flaw.0

pub one_flaw : (bytes : List ℕ) (a b : Error) → NumberFlaw bytes a → NumberFlaw bytes b → a ≡ b
one_flaw bytes Truncated Truncated first second = refl
one_flaw bytes Truncated Overflow first second = absurd (second.1 first)
one_flaw bytes Overflow Truncated first second = absurd (first.1 second)
one_flaw bytes Overflow Overflow first second = refl

-- What reading gives says all that stands there.
pub reads_found : (bytes : List ℕ) (from to : ℕ) (result : Result ℕ Error) → ReadsNumber bytes from result to → IfOk result (λ n. NumberStandsAt bytes from n to)
reads_found bytes from to (Ok n) reads = reads
reads_found bytes from to (Err e) reads = tt

pub reads_spelled : (bytes : List ℕ) (from to : ℕ) (result : Result ℕ Error) → ReadsNumber bytes from result to → (n end : ℕ) → NumberStandsAt bytes from n end → (result ≡ Ok n) × (to ≡ end)
reads_spelled bytes from to (Ok m) reads n end standing =
    let one = stands_once bytes from m n to end reads standing in
    (ap (λ (k : ℕ). Ok k) one.0, one.1)
reads_spelled bytes from to (Err e) reads n end standing = absurd (flaw_stands (drop from bytes) e reads.0 (end - from) n standing.1)

pub reads_error : (bytes : List ℕ) (from to : ℕ) (result : Result ℕ Error) → ReadsNumber bytes from result to → (e : Error) → (result ≡ Err e) ↔ NumberFlaw (drop from bytes) e
reads_error bytes from to (Ok n) reads e = (λ same. absurd cc, λ flaw. absurd (flaw_stands (drop from bytes) e flaw (to - from) n reads.1))
reads_error bytes from to (Err error) reads e =
    (λ same. let one : error ≡ e = cc in subst (NumberFlaw (drop from bytes)) one reads.0, λ flaw. ap (λ (x : Error). Err x) (one_flaw (drop from bytes) error e reads.0 flaw))

pub reads_cursor : (bytes : List ℕ) (from to : ℕ) (result : Result ℕ Error) → ReadsNumber bytes from result to → OnErr result (to ≡ from + length (take 10 (drop from bytes)))
reads_cursor bytes from to (Ok n) reads = tt
reads_cursor bytes from to (Err e) reads = reads.1

-- one group
pub reads_one : (bytes : List ℕ) (from byte : ℕ) → from < length bytes → byte ≡ get_or bytes from 0 → byte < 0x80 → NumberStandsAt bytes from byte (from + 1)
reads_one bytes from byte within read last =
    let value : 0 + byte % 128 * 128 ^ 0 ≡ byte = omega arith in
    subst (λ (n : ℕ). NumberStandsAt bytes from n (from + 1)) value (stands bytes from 0 0 from byte (passes_none bytes from) within read last (omega arith) (λ nine. absurd (omega arith)))

-- numbers that are spelled alike are one
zigzag_once : (a b : ℤ) → zigzag a ≡ zigzag b → a ≡ b
zigzag_once (pos m) (pos n) same = ap pos (omega arith)
zigzag_once (pos m) (negsuc n) same = absurd (omega arith)
zigzag_once (negsuc m) (pos n) same = absurd (omega arith)
zigzag_once (negsuc m) (negsuc n) same = ap negsuc (omega arith)

pub zigzag_spelled : (bytes : List ℕ) (from to end : ℕ) (a b : ℤ) → NumberStandsAt bytes from (zigzag a) to → NumberStandsAt bytes from (zigzag b) end → (◌≡◌ {A = Result ℤ Error} (Ok a) (Ok b)) × (to ≡ end)
zigzag_spelled bytes from to end a b first second =
    let one = stands_once bytes from (zigzag a) (zigzag b) to end first second in
    (ap (λ (v : ℤ). Ok v) (zigzag_once a b one.0), one.1)

-- an even number stands for its half, an odd one for its half's complement
pub zigzag_even : (raw : ℕ) → raw < 2 ^ 64 → bit_and raw 1 ≡ 0 → zigzag (cast_signed w64 (raw / 2)) ≡ raw
zigzag_even raw fits even =
    let half : cast_signed w64 (raw / 2) ≡ pos (raw / 2) = omega (arith, ints) in
    ap zigzag half ∙ omega (arith, and_mask raw 1)

pub zigzag_odd : (raw : ℕ) → raw < 2 ^ 64 → bit_and raw 1 ≢ 0 → zigzag (cast_signed w64 (2 ^ 64 - 1 - raw / 2)) ≡ raw
zigzag_odd raw fits odd =
    let half : cast_signed w64 (2 ^ 64 - 1 - raw / 2) ≡ negsuc (raw / 2) = grind (arith, ints) in
    ap zigzag half ∙ omega (arith, and_mask raw 1)

-- The errors of a number that has to fit u32: where none stands, where one stands that is greater, and where one fits.
pub u32_flaw : (bytes : List ℕ) (error e : Error) → NumberFlaw bytes error → (◌≡◌ {A = Result ℕ Error} (Err error) (Err e)) ↔ U32Flaw bytes e
u32_flaw bytes error e flaw = (there error e flaw, back error e flaw)
  where
    there : (error e : Error) → NumberFlaw bytes error → ◌≡◌ {A = Result ℕ Error} (Err error) (Err e) → U32Flaw bytes e
    there Truncated Truncated flaw same = flaw
    there Truncated Overflow flaw same = absurd cc
    there Overflow Truncated flaw same = absurd cc
    there Overflow Overflow flaw same = inl flaw

    back : (error e : Error) → NumberFlaw bytes error → U32Flaw bytes e → ◌≡◌ {A = Result ℕ Error} (Err error) (Err e)
    back Truncated Truncated flaw other = refl
    back Truncated Overflow flaw (inl wide) = absurd (wide.1 flaw)
    back Truncated Overflow flaw (inr large) = absurd (cut_stands bytes flaw large.0 large.1 large.2)
    back Overflow Truncated flaw other = absurd (flaw.1 other)
    back Overflow Overflow flaw other = refl

pub u32_large : (bytes : List ℕ) (from n to : ℕ) → NumberStandsAt bytes from n to → 2 ^ 32 ≤ n → (e : Error) → (◌≡◌ {A = Result ℕ Error} (Err Overflow) (Err e)) ↔ U32Flaw (drop from bytes) e
u32_large bytes from n to standing large Truncated = (λ same. absurd cc, λ flaw. absurd (cut_stands (drop from bytes) flaw (to - from) n standing.1))
u32_large bytes from n to standing large Overflow = (λ same. inr (to - from, n, standing.1, large), λ flaw. refl)

pub u32_small : (bytes : List ℕ) (from n to : ℕ) → NumberStandsAt bytes from n to → n < 2 ^ 32 → (e : Error) → (◌≡◌ {A = Result ℕ Error} (Ok n) (Err e)) ↔ U32Flaw (drop from bytes) e
u32_small bytes from n to standing small e = (λ same. absurd cc, λ flaw. absurd (none e flaw))
  where
    none : (e : Error) → U32Flaw (drop from bytes) e → ⊥
    none Truncated flaw = cut_stands (drop from bytes) flaw (to - from) n standing.1
    none Overflow (inl wide) = wide.0 (to - from) n standing.1
    none Overflow (inr large) =
        let one = one_spelling (take (to - from) (drop from bytes)) (take large.0 (drop from bytes)) _ _ n large.1 standing.1 large.2
        (take-append-drop (to - from) (drop from bytes) ∙ sym (take-append-drop large.0 (drop from bytes))) in
        absurd (omega (arith, one.1, large.3))
