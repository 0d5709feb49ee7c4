-- Numbers that fit u32, spelled one after another.
use Rattle.std.proofs.Common.{◌≡◌, ℕ, ◌+◌, ◌-◌, ◌^◌, ◌<◌, ◌≤◌, ◌⊎◌, ◌↔◌, inl, inr, List, [], ◌∷◌, ◌++◌, length, take, drop, get_or, All, Result, Ok, Err, refl, sym, ap, subst, ◌∙◌, arith, append_assoc}
use Rattle.std.proofs.lemmas.Bool.{cases_lt}
use Rattle.std.proofs.lemmas.List.{take_at, take-append-drop, drop-drop}
use Rattle.std.proofs.lemmas.List.Elements.{All-nil, All-cons, All-take}
use Rattle.grain_base.specs.declared.varint.Error.{Error}
use Rattle.grain_base.specs.declared.varint.Error.TheVariants.{Truncated, Overflow}
use Rattle.grain_base.specs.Varint.{AreGroups, number_of, Spells, NumberStandsAt, IsCutShort, NoneStands, U32Flaw, BeginsNumbers}
use Rattle.grain_base.proofs.Groups.{GoesOn, none_ends, one_front}
use Rattle.grain_base.proofs.NumberUniqueness.{one_spelling, stands_within, cut_stands}

-- a number stands at the front of the bytes, and then come the others
pub begins_at : (bytes : List ℕ) (from n to : ℕ) → NumberStandsAt bytes from n to → n < 2 ^ 32 → BeginsNumbers (drop from bytes) (n ∷ []) (drop to bytes)
begins_at bytes from n to standing fits =
    let behind : from + (to - from) ≡ to = omega (arith, stands_within bytes from n to standing) in (
      take (to - from) (drop from bytes),
      drop (to - from) (drop from bytes),
      sym (take-append-drop (to - from) (drop from bytes)),
      (standing.1, fits),
      drop-drop (to - from) from bytes ∙ ap (λ i. drop i bytes) behind,
    )

pub begins-append : (bytes : List ℕ) (ns ms mid rest : List ℕ) → BeginsNumbers bytes ns mid → BeginsNumbers mid ms rest → BeginsNumbers bytes (ns ++ ms) rest
begins-append bytes [] ms mid rest first second = subst (λ (xs : List ℕ). BeginsNumbers xs ms rest) (sym first) second
begins-append bytes (n ∷ ns) ms mid rest first second =
    (first.0, first.1, first.2, first.3, begins-append first.1 ns ms mid rest first.4 second)

-- more bytes behind the last number
pub begins_longer : (bytes ns rest more : List ℕ) → BeginsNumbers bytes ns rest → BeginsNumbers (bytes ++ more) ns (rest ++ more)
begins_longer bytes [] rest more begins = ap (λ (xs : List ℕ). xs ++ more) begins
begins_longer bytes (n ∷ ns) rest more begins =
    (begins.0, begins.1 ++ more, ap (λ (xs : List ℕ). xs ++ more) begins.2 ∙ append_assoc begins.0 begins.1 more, begins.3, begins_longer begins.1 ns rest more begins.4)

-- the bytes of the numbers, without those that follow
pub begins_front : (bytes ns rest : List ℕ) → BeginsNumbers bytes ns rest → (front : List ℕ) × (bytes ≡ front ++ rest) × BeginsNumbers front ns []
begins_front bytes [] rest begins = ([], begins, refl)
begins_front bytes (n ∷ ns) rest begins =
    let more = begins_front begins.1 ns rest begins.4 in
    (begins.0 ++ more.0, begins.2 ∙ ap (λ (xs : List ℕ). begins.0 ++ xs) more.1 ∙ sym (append_assoc begins.0 more.0 rest), (begins.0, more.0, refl, begins.3, more.2))

-- the first number is one, and so is what follows it
pub begins_once : (bytes : List ℕ) (m n : ℕ) (rest more : List ℕ) → BeginsNumbers bytes (m ∷ []) rest → BeginsNumbers bytes (n ∷ []) more → (m ≡ n) × (rest ≡ more)
begins_once bytes m n rest more first second =
    let one = one_spelling first.0 second.0 first.1 second.1 m n first.3.0 second.3.0 (sym first.2 ∙ second.2) in
    (one.1, sym first.4 ∙ one.2 ∙ second.4)

-- three numbers, each behind the one before it
pub record AreThree (bytes : List ℕ) (a b c : ℕ) (rest : List ℕ) : Type 0 where
  pub after : List ℕ
  pub mid : List ℕ
  pub first : BeginsNumbers bytes (a ∷ []) after
  pub second : BeginsNumbers after (b ∷ []) mid
  pub third : BeginsNumbers mid (c ∷ []) rest

pub three : (bytes : List ℕ) (a b c : ℕ) (rest : List ℕ) → BeginsNumbers bytes (a ∷ b ∷ c ∷ []) rest → AreThree bytes a b c rest
three bytes a b c rest all = record {
  after = all.1;
  mid = all.4.1;
  first = (all.0, all.1, all.2, all.3, refl);
  second = (all.4.0, all.4.1, all.4.2, all.4.3, refl);
  third = all.4.4;
}

-- a number that fits excludes an error
pub begins_flawless : (bytes : List ℕ) (n : ℕ) (rest : List ℕ) (error : Error) → BeginsNumbers bytes (n ∷ []) rest → U32Flaw bytes error → ⊥
begins_flawless bytes n rest error number flaw = within error flaw
  where
    here : Spells (take (length number.0) bytes) n
    here = subst (λ (xs : List ℕ). Spells xs n) (sym (ap (take (length number.0)) number.2 ∙ take_at number.0 number.1 (length number.0) refl)) number.3.0

    within : (error : Error) → U32Flaw bytes error → ⊥
    within Truncated short = cut_stands bytes short (length number.0) n here
    within Overflow (inl wide) = wide.0 (length number.0) n here
    within Overflow (inr large) =
        let one = one_spelling (take large.0 bytes) number.0 (drop large.0 bytes) number.1 large.1 n large.2 number.3.0 (take-append-drop large.0 bytes ∙ number.2) in
        absurd (omega (arith, one.1, large.3, number.3.1))

-- there is one error at most
pub one_u32_flaw : (bytes : List ℕ) (a b : Error) → U32Flaw bytes a → U32Flaw bytes b → a ≡ b
one_u32_flaw bytes Truncated Truncated first second = refl
one_u32_flaw bytes Truncated Overflow first (inl wide) = absurd (wide.1 first)
one_u32_flaw bytes Truncated Overflow first (inr large) = absurd (cut_stands bytes first large.0 large.1 large.2)
one_u32_flaw bytes Overflow Truncated (inl wide) second = absurd (wide.1 second)
one_u32_flaw bytes Overflow Truncated (inr large) second = absurd (cut_stands bytes second large.0 large.1 large.2)
one_u32_flaw bytes Overflow Overflow first second = refl

-- Either the groups at the front of the bytes end, or all bytes go on.
parts : (bytes : List ℕ) → ((front : List ℕ) × (rest : List ℕ) × (bytes ≡ front ++ rest) × AreGroups front) ⊎ All GoesOn bytes
parts [] = inr (All-nil GoesOn)
parts (byte ∷ bytes) = elim (cases_lt byte 0x80) [
  | inl last ↦ inl (byte ∷ [], bytes, refl, last)
  | inr more ↦ elim (parts bytes) [
    | inl found ↦ inl (byte ∷ found.0, found.1, ap (λ xs. byte ∷ xs) found.2, longer found.0 more found.3)
    | inr all ↦ inr (All-cons GoesOn byte bytes more all)
  ]
]
  where
    longer : (front : List ℕ) → 0x80 ≤ byte → AreGroups front → AreGroups (byte ∷ front)
    longer [] more groups = absurd groups
    longer (next ∷ front) more groups = (more, groups)

-- Either a number that fits stands at the front of the bytes, or an error says why none does.
pub data Reading (bytes : List ℕ) : Type 0 where
  Number : (n : ℕ) (rest : List ℕ) → BeginsNumbers bytes (n ∷ []) rest → Reading bytes
  Flaw : (error : Error) → U32Flaw bytes error → Reading bytes

-- spelled in other groups than these it isn't
only_here : (bytes front rest : List ℕ) → bytes ≡ front ++ rest → AreGroups front → ((n : ℕ) → Spells front n → ⊥) → NoneStands bytes
only_here bytes front rest whole groups none taken n spelled =
    let one = one_front (take taken bytes) front (drop taken bytes) rest spelled.groups groups (take-append-drop taken bytes ∙ whole) in
    none n (subst (λ (xs : List ℕ). Spells xs n) one.0 spelled)

not_cut : (bytes front rest : List ℕ) → bytes ≡ front ++ rest → AreGroups front → ¬ IsCutShort bytes
not_cut bytes front rest whole groups short =
    none_ends front (subst (λ (xs : List ℕ). All GoesOn xs) (ap (take (length front)) whole ∙ take_at front rest (length front) refl) (All-take GoesOn (length front) bytes short.1)) groups

wide : (bytes front rest : List ℕ) → bytes ≡ front ++ rest → AreGroups front → ((n : ℕ) → Spells front n → ⊥) → Reading bytes
wide bytes front rest whole groups none = Flaw Overflow (inl (only_here bytes front rest whole groups none, not_cut bytes front rest whole groups))

spelled_here : (bytes front rest : List ℕ) → bytes ≡ front ++ rest → Spells front (number_of front) → Reading bytes
spelled_here bytes front rest whole spelled = elim (cases_lt (number_of front) (2 ^ 32)) [
  | inl fits ↦ Number (number_of front) rest (front, rest, whole, (spelled, fits), refl)
  | inr large ↦ Flaw Overflow (inr (length front, number_of front, subst (λ (xs : List ℕ). Spells xs (number_of front)) (sym (ap (take (length front)) whole ∙ take_at front rest (length front) refl)) spelled, large))
]

pub reading : (bytes : List ℕ) → Reading bytes
reading bytes = elim (parts bytes) [
  | inl found ↦ elim (cases_lt 10 (length found.0)) [
    | inl long ↦ wide bytes found.0 found.1 found.2 found.3 (λ n spelled. absurd (omega (arith, spelled.at_most_ten)))
    | inr ten ↦ elim (cases_lt 1 (get_or found.0 9 0)) [
      | inl more ↦ wide bytes found.0 found.1 found.2 found.3 (λ n spelled. absurd (omega (arith, spelled.tenth)))
      | inr one ↦ spelled_here bytes found.0 found.1 found.2 (record { groups = found.3; at_most_ten = ten; tenth = one; number = refl })
    ]
  ]
  | inr all ↦ elim (cases_lt (length bytes) 10) [
    | inl short ↦ Flaw Truncated (short, all)
    | inr long ↦ Flaw Overflow (inl (λ taken n spelled. none_ends (take taken bytes) (All-take GoesOn taken bytes all) spelled.groups, λ short. absurd (omega (arith, short.0))))
  ]
]

-- What is known of the first number where it is read, and where it can't be.
pub first_read : {E : Type 0} (bytes : List ℕ) (m : ℕ) (rest : List ℕ) → BeginsNumbers bytes (m ∷ []) rest → (n : ℕ) → (◌≡◌ {A = Result ℕ E} (Ok m) (Ok n)) ↔ ((left : List ℕ) × BeginsNumbers bytes (n ∷ []) left)
first_read bytes m rest begins n =
    (λ same. (rest, subst (λ (k : ℕ). BeginsNumbers bytes (k ∷ []) rest) (cc) begins), λ other. ap (λ (k : ℕ). Ok k) (begins_once bytes m n rest other.0 begins other.1).0)

pub first_unread : {E : Type 0} (bytes : List ℕ) (error : Error) (e : E) → U32Flaw bytes error → (n : ℕ) → (◌≡◌ {A = Result ℕ E} (Err e) (Ok n)) ↔ ((left : List ℕ) × BeginsNumbers bytes (n ∷ []) left)
first_unread bytes error e flaw n = (λ same. absurd cc, λ other. absurd (begins_flawless bytes n other.0 error other.1 flaw))

pub no_error : {E : Type 0} (as_error : Error → E) (bytes : List ℕ) (m : ℕ) (rest : List ℕ) → BeginsNumbers bytes (m ∷ []) rest → (e : E) → (◌≡◌ {A = Result ℕ E} (Ok m) (Err e)) ↔
    ((error : Error) × U32Flaw bytes error × (e ≡ as_error error))
no_error as_error bytes m rest begins e = (λ same. absurd cc, λ other. absurd (begins_flawless bytes m rest other.0 begins other.1))

pub the_error : {E : Type 0} (as_error : Error → E) (bytes : List ℕ) (error : Error) → U32Flaw bytes error → (e : E) → (◌≡◌ {A = Result ℕ E} (Err (as_error error)) (Err e)) ↔
    ((found : Error) × U32Flaw bytes found × (e ≡ as_error found))
the_error {E} as_error bytes error flaw e =
    (λ same. (error, flaw, cc), λ other. ap (λ (x : E). Err x) (ap as_error (one_u32_flaw bytes error other.0 flaw other.1) ∙ sym other.2))
