-- Writing the shortest spelling of a number, group by group.
use Rattle.std.proofs.Common.{◌≡◌, ℕ, ◌+◌, ◌*◌, ◌/◌, ◌%◌, ◌^◌, ◌<◌, ◌≤◌, inl, inr, List, [], ◌∷◌, ◌++◌, length, take, set, All, cond, is_ok, Result, Ok, Err, OnOk, bit_and, bit_or, sym, ap, subst, ◌∙◌, arith}
use Rattle.std.proofs.Math.Nat.{mul-le-mul_right}
use Rattle.std.proofs.lemmas.Bool.{cases_lt}
use Rattle.std.proofs.lemmas.List.{take_more_set, length-set, length-take-le, length_push, get_or_past, get_or_push}
use Rattle.std.proofs.lemmas.List.Elements.{All-push}
use Rattle.std.proofs.lemmas.Nat.{and_mask, or_comm, or_shifted}
use Rattle.grain_base.specs.Varint.{number_of, Spells, IsShortest, AppendsShortest}
use Rattle.grain_base.proofs.Groups.{GoesOn, pow_more, number_of-push, number_of-below, groups_some, groups_push, same_groups, least_groups}

-- The first groups of a spelling of the number are written, and the rest is to be spelled behind them.
pub record Written (groups : List ℕ) (count rest number : ℕ) : Type 0 where
  pub room : length groups ≡ 10
  pub inside : count ≤ 9
  pub fits : rest * 128 ^ count < 2 ^ 64
  pub go_on : All GoesOn (take count groups)
  pub value : number_of (take count groups) + rest * 128 ^ count ≡ number
  pub some : 0 < count → 0 < rest

-- the number that the groups stand for with one more byte
number_more : (groups : List ℕ) (count byte : ℕ) → length groups ≡ 10 → count ≤ 9
    → (take (count + 1) (set groups count byte) ≡ take count groups ++ byte ∷ []) × (number_of (take count groups ++ byte ∷ []) ≡ number_of (take count groups) + byte % 128 * 128 ^ count)
number_more groups count byte room inside =
    (take_more_set groups count byte (omega arith), number_of-push (take count groups) byte ∙ ap (λ n. number_of (take count groups) + byte % 128 * 128 ^ n) (length-take-le count groups (omega arith)))

-- seven bits with the bit 0x80
group_of : ℕ → ℕ
group_of rest = bit_or (bit_and rest 127) 128

group_is : (rest : ℕ) → group_of rest ≡ 128 + rest % 128
unfolding group_of
group_is rest = ap (λ low. bit_or low 128) (and_mask rest 7) ∙ or_comm (rest % 128) 128 ∙ or_shifted 1 7 (rest % 128) (omega arith)

-- behind nine groups one bit has room
last_fits : (count rest : ℕ) → count ≡ 9 → rest * 128 ^ count < 2 ^ 64 → rest ≤ 1
last_fits count rest nine fits = let small = rw nine at fits in omega arith

-- a number too great for this many groups has no spelling in them
no_shorter : (count rest number : ℕ) (other : List ℕ) → Spells other number → (0 < count → 0 < rest) → rest * 128 ^ count ≤ number → count < length other
no_shorter count rest number other spelled some above = elim (cases_lt 0 count) [
  | inl less ↦ least_groups count (length other) number (omega (arith, mul-le-mul_right (128 ^ count) (some less))) (omega (arith, number_of-below other, spelled.number))
  | inr none ↦ omega (arith, groups_some other spelled.groups)
]

pub written_more : (groups : List ℕ) (count rest number : ℕ) → Written groups count rest number → 0x80 ≤ rest → Written (set groups count (bit_or (bit_and rest 127) 128)) (count + 1) (rest / 128) number
unfolding group_of
written_more groups count rest number w large =
    let byte = group_is rest in
    let more = number_more groups count (group_of rest) w.room w.inside in
    let parts : rest * 128 ^ count ≡ (128 * (rest / 128) + rest % 128) * 128 ^ count = ap (λ n. n * 128 ^ count) (omega arith) in
    let next : rest / 128 * 128 ^ (count + 1) ≡ rest / 128 * (128 * 128 ^ count) = ap (λ n. rest / 128 * n) (pow_more count) in
    let low : group_of rest % 128 * 128 ^ count ≡ rest % 128 * 128 ^ count = ap (λ n. n * 128 ^ count) (omega arith) in
    record {
      room = length-set groups count (group_of rest) ∙ w.room;
      inside = elim (cases_lt count 9) [ inl less ↦ omega arith | inr nine ↦ absurd (omega (arith, last_fits count rest (omega (arith, w.inside)) w.fits)) ];
      fits = omega (arith, w.fits);
      go_on = subst (λ (xs : List ℕ). All GoesOn xs) (sym more.0) (All-push GoesOn (take count groups) (group_of rest) w.go_on (omega arith));
      value = ap (λ (xs : List ℕ). number_of xs + rest / 128 * 128 ^ (count + 1)) more.0 ∙ omega (arith, more.1, w.value);
      some = λ less. omega arith;
    }

pub written_last : (groups : List ℕ) (count rest number : ℕ) → Written groups count rest number → rest < 0x80 → IsShortest (take (count + 1) (set groups count rest)) number
written_last groups count rest number w small =
    let more = number_more groups count rest w.room w.inside in
    let front = take count groups in
    let long : length front ≡ count = length-take-le count groups (omega (arith, w.room, w.inside)) in
    let low : rest % 128 * 128 ^ count ≡ rest * 128 ^ count = ap (λ n. n * 128 ^ count) (omega arith) in
    rw more.0 (record {
      spelled = record {
        groups = groups_push front rest w.go_on small;
        at_most_ten = omega (arith, length_push front rest, w.inside);
        tenth = elim (cases_lt count 9) [
          | inl less ↦ omega (arith, get_or_past (front ++ rest ∷ []) 9 0 (omega (arith, length_push front rest)))
          | inr nine ↦ omega (arith, last_fits count rest (omega (arith, w.inside)) w.fits, get_or_push front rest 0 9 (omega (arith, w.inside)))
        ];
        number = omega (arith, more.1, w.value);
      };
      least = λ other spelled. omega (arith, length_push front rest, no_shorter count rest number other spelled w.some (omega (arith, w.value)));
    })

pub appends : {E : Type 0} (old new spelling : List ℕ) (n : ℕ) (result : Result (Unit {0}) E) → new ≡ cond (is_ok result) (old ++ spelling) old → IsShortest spelling n → OnOk result (AppendsShortest old new n)
appends old new spelling n (Ok u) same shortest = (spelling, same, shortest)
appends old new spelling n (Err e) same shortest = tt

-- as bytes, the shortest spelling is one
pub one_shortest : (a b : List ℕ) (n : ℕ) → All (λ byte. byte < 256) a → All (λ byte. byte < 256) b → IsShortest a n → IsShortest b n → a ≡ b
one_shortest a b n fit other first second =
    same_groups a b first.spelled.groups second.spelled.groups fit other (omega (arith, first.least b second.spelled, second.least a first.spelled)) (first.spelled.number ∙ sym second.spelled.number)
