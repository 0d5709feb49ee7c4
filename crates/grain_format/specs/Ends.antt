-- If reading fails, what is wrong stands in the bytes.
use Rattle.std.proofs.Common.{◌≡◌, ℕ, zero, suc, Bool, cond, ltb, eqb, List, [], ◌∷◌, ◌++◌, length, take, drop, Option, Some, Result, Ok, Err, refl, sym, ap, subst, ◌∙◌, append_assoc, inl, inr, ◌⊎◌}
use Rattle.std.specs.Str.{is_utf8}
use Rattle.grain_format.specs.declared.error.FieldFault.{FieldFault}
use Rattle.grain_format.specs.declared.error.FieldFault.TheVariants.{Truncated, TooWide, NotText, UnknownTag}
use Rattle.grain_format.specs.Reading.{LocatedFault, ◌>>=◌, Takes, IsEnd, Ends}
use Rattle.grain_format.specs.Laws.{chosen, tail_are_bytes}
use Rattle.grain_format.specs.Numbers.{number, groups_at, located, number_at, below_at}
use Rattle.grain_format.specs.NumberLaws.{number_takes}
use Rattle.grain_format.specs.Texts.{byte_at, bytes_at, text_at, tag_at}
use Rattle.grain_format.specs.Lists.{both_at, depending_at, checked_at, seen_at, repeat_at, counted_at, optional_at, alternative_at, headed_at}
use Rattle.grain_format.specs.ListLaws.{left_are_bytes}

abbrev failed : {A E : Type 0} → E → Result A E
failed e = Err e

pub err_is : {A E : Type 0} (x y : E) → failed {A = A} x ≡ failed {A = A} y → x ≡ y
err_is x y e = cc

-- which step failed
pub bind_err : {A B : Type 0} (r : Result A LocatedFault) (f : A → Result B LocatedFault) (d : LocatedFault) → (r >>= f) ≡ Err d → (r ≡ Err d) ⊎ ((x : A) × (r ≡ Ok x) × (f x ≡ Err d))
bind_err (Ok x) f d e = inr (x, refl, e)
bind_err {A = A} {B = B} (Err c) f d e = inl (ap (λ (b : LocatedFault). failed {A = A} b) (err_is {A = B} {E = LocatedFault} c d e))

abbrev pub flaw : FieldFault → List ℕ → LocatedFault
flaw fault left = (fault, left)

pub at_whole : (bytes : List ℕ) (fault f : FieldFault) (left : List ℕ) → flaw fault bytes ≡ flaw f left → IsEnd left bytes
at_whole bytes fault f left e =
    let same : bytes ≡ left = ap (λ (d : LocatedFault). d.1) e in
    subst (λ (l : List ℕ). IsEnd l bytes) same (record { front = []; is = refl })

-- an end of what follows a front is an end of both
pub after : (front rest left : List ℕ) → IsEnd left rest → IsEnd left (front ++ rest)
after front rest left end = record { front = front ++ end.front; is = ap (λ (t : List ℕ). front ++ t) end.is ∙ sym (append_assoc front end.front left) }

pub end_moved : (bytes front rest left : List ℕ) → bytes ≡ front ++ rest → IsEnd left rest → IsEnd left bytes
end_moved bytes front rest left e end = subst (λ (b : List ℕ). IsEnd left b) (sym e) (after front rest left end)

-- ---- numbers, bytes and texts

located_ends : {A : Type 0} (bytes : List ℕ) (r : Result A FieldFault) (fault : FieldFault) (left : List ℕ) → located bytes r ≡ Err (fault, left) → IsEnd left bytes
located_ends bytes (Ok x) fault left e = absurd cc
located_ends {A = A} bytes (Err f) fault left e = at_whole bytes f fault left (err_is {A = A} {E = LocatedFault} (f, bytes) (fault, left) e)

pub number_ends : Ends number_at
unfolding number_at
number_ends bytes fault left are e = located_ends bytes (groups_at 9 bytes) fault left e

pub below_ends : (limit : ℕ) → Ends (below_at limit)
unfolding below_at
below_ends limit bytes fault left are e =
    elim (bind_err (number_at bytes) (λ m. cond (ltb m.0 limit) (Ok m) (Err (TooWide, bytes))) (fault, left) e) [
      | inl p ↦ number_ends bytes fault left are p
      | inr b ↦ elim (chosen (ltb b.0.0 limit) (Ok b.0) (Err (TooWide, bytes)) (Err (fault, left)) b.2) [
        | inl p ↦ absurd (let q = p.1 in cc)
        | inr p ↦ at_whole bytes TooWide fault left (err_is {A = ℕ × List ℕ} {E = LocatedFault} (TooWide, bytes) (fault, left) p.1)
      ]
    ]

pub bytes_ends : Ends bytes_at
unfolding bytes_at
bytes_ends bytes fault left are e =
    elim (bind_err (number_at bytes) (λ n. cond (ltb (length n.1) n.0) (Err (Truncated, n.1)) (Ok (take n.0 n.1, drop n.0 n.1))) (fault, left) e) [
      | inl p ↦ number_ends bytes fault left are p
      | inr b ↦ elim (chosen (ltb (length b.0.1) b.0.0) (Err (Truncated, b.0.1)) (Ok (take b.0.0 b.0.1, drop b.0.0 b.0.1)) (Err (fault, left)) b.2) [
        | inl p ↦
            let t = number_takes bytes b.0.0 b.0.1 are b.1 in
            end_moved bytes (number b.0.0) b.0.1 left t.0 (at_whole b.0.1 Truncated fault left (err_is {A = List ℕ × List ℕ} {E = LocatedFault} (Truncated, b.0.1) (fault, left) p.1))
        | inr p ↦ absurd (let q = p.1 in cc)
      ]
    ]

pub text_ends : Ends text_at
unfolding text_at
text_ends bytes fault left are e =
    elim (bind_err (bytes_at bytes) (λ t. cond (is_utf8 t.0) (Ok t) (Err (NotText, bytes))) (fault, left) e) [
      | inl p ↦ bytes_ends bytes fault left are p
      | inr b ↦ elim (chosen (is_utf8 b.0.0) (Ok b.0) (Err (NotText, bytes)) (Err (fault, left)) b.2) [
        | inl p ↦ absurd (let q = p.1 in cc)
        | inr p ↦ at_whole bytes NotText fault left (err_is {A = List ℕ × List ℕ} {E = LocatedFault} (NotText, bytes) (fault, left) p.1)
      ]
    ]

pub byte_ends : Ends byte_at
unfolding byte_at
byte_ends [] fault left are e = at_whole [] Truncated fault left (err_is {A = ℕ × List ℕ} {E = LocatedFault} (Truncated, []) (fault, left) e)
byte_ends (b ∷ bytes) fault left are e = absurd cc

pub tag_ends : (limit : ℕ) → Ends (tag_at limit)
unfolding tag_at
tag_ends limit [] fault left are e = at_whole [] Truncated fault left (err_is {A = ℕ × List ℕ} {E = LocatedFault} (Truncated, []) (fault, left) e)
tag_ends limit (b ∷ bytes) fault left are e =
    elim (chosen (ltb b limit) (Ok (b, bytes)) (Err (UnknownTag, b ∷ bytes)) (Err (fault, left)) e) [
      | inl p ↦ absurd (let q = p.1 in cc)
      | inr p ↦ at_whole (b ∷ bytes) UnknownTag fault left (err_is {A = ℕ × List ℕ} {E = LocatedFault} (UnknownTag, b ∷ bytes) (fault, left) p.1)
    ]

pub only_ends : {A : Type 0} (one : A) → Ends (λ bytes. Ok (one, bytes))
only_ends one bytes fault left are e = absurd cc

-- ---- fields one after another

module _ {A B : Type 0} (first : A → List ℕ) (First : A → Type 0) (first_at : List ℕ → Result (A × List ℕ) LocatedFault) where
  pub depending_ends : (second_at : A → List ℕ → Result (B × List ℕ) LocatedFault) → Takes first First first_at → Ends first_at → ((x : A) → Ends (second_at x)) → Ends (depending_at first_at second_at)
  depending_ends second_at take_first ends_first ends_second bytes fault left are e =
      elim (bind_err (first_at bytes) (λ a. (second_at a.0 a.1 >>= λ b. Ok ((a.0, b.0), b.1))) (fault, left) e) [
        | inl p ↦ ends_first bytes fault left are p
        | inr a ↦ elim (bind_err (second_at a.0.0 a.0.1) (λ b. Ok ((a.0.0, b.0), b.1)) (fault, left) a.2) [
          | inl p ↦
              let t = take_first bytes a.0.0 a.0.1 are a.1 in
              end_moved bytes (first a.0.0) a.0.1 left t.0 (ends_second a.0.0 a.0.1 fault left (left_are_bytes bytes (first a.0.0) a.0.1 are t.0) p)
          | inr b ↦ absurd (let q = b.2 in cc)
        ]
      ]

  pub both_ends : (second_at : List ℕ → Result (B × List ℕ) LocatedFault) → Takes first First first_at → Ends first_at → Ends second_at → Ends (both_at first_at second_at)
  both_ends second_at take_first ends_first ends_second = depending_ends (λ x. second_at) take_first ends_first (λ x. ends_second)

pub seen_ends : {A B : Type 0} (to : A → B) (reading : List ℕ → Result (A × List ℕ) LocatedFault) → Ends reading → Ends (seen_at to reading)
seen_ends to reading ends bytes fault left are e =
    elim (bind_err (reading bytes) (λ a. Ok (to a.0, a.1)) (fault, left) e) [
      | inl p ↦ ends bytes fault left are p
      | inr a ↦ absurd (let q = a.2 in cc)
    ]

pub checked_ends : {A : Type 0} (reading : List ℕ → Result (A × List ℕ) LocatedFault) (test : A → Bool) (wrong : FieldFault) → Ends reading → Ends (checked_at test wrong reading)
checked_ends {A = A} reading test wrong ends bytes fault left are e =
    elim (bind_err (reading bytes) (λ x. cond (test x.0) (Ok x) (Err (wrong, bytes))) (fault, left) e) [
      | inl p ↦ ends bytes fault left are p
      | inr a ↦ elim (chosen (test a.0.0) (Ok a.0) (Err (wrong, bytes)) (Err (fault, left)) a.2) [
        | inl p ↦ absurd (let q = p.1 in cc)
        | inr p ↦ at_whole bytes wrong fault left (err_is {A = A × List ℕ} {E = LocatedFault} (wrong, bytes) (fault, left) p.1)
      ]
    ]

module _ {A : Type 0} (spelling : A → List ℕ) (Fits : A → Type 0) (reading : List ℕ → Result (A × List ℕ) LocatedFault) (takes : Takes spelling Fits reading) (ends : Ends reading) where
  pub repeat_ends : (n : ℕ) → Ends (repeat_at reading n)
  unfolding repeat_at
  repeat_ends zero bytes fault left are e = absurd cc
  repeat_ends (suc n) bytes fault left are e =
      elim (bind_err (reading bytes) (λ x. (repeat_at reading n x.1 >>= λ more. Ok (x.0 ∷ more.0, more.1))) (fault, left) e) [
        | inl p ↦ ends bytes fault left are p
        | inr a ↦ elim (bind_err (repeat_at reading n a.0.1) (λ more. Ok (a.0.0 ∷ more.0, more.1)) (fault, left) a.2) [
          | inl p ↦
              let t = takes bytes a.0.0 a.0.1 are a.1 in
              end_moved bytes (spelling a.0.0) a.0.1 left t.0 (repeat_ends n a.0.1 fault left (left_are_bytes bytes (spelling a.0.0) a.0.1 are t.0) p)
          | inr b ↦ absurd (let q = b.2 in cc)
        ]
      ]

  pub counted_ends : Ends (counted_at reading)
  counted_ends bytes fault left are e =
      elim (bind_err (number_at bytes) (λ n. repeat_at reading n.0 n.1) (fault, left) e) [
        | inl p ↦ number_ends bytes fault left are p
        | inr a ↦
            let t = number_takes bytes a.0.0 a.0.1 are a.1 in
            end_moved bytes (number a.0.0) a.0.1 left t.0 (repeat_ends a.0.0 a.0.1 fault left (left_are_bytes bytes (number a.0.0) a.0.1 are t.0) a.2)
      ]

pub optional_ends : {A : Type 0} (reading : List ℕ → Result (A × List ℕ) LocatedFault) → Ends reading → Ends (optional_at reading)
optional_ends {A = A} reading ends [] fault left are e = at_whole [] Truncated fault left (err_is {A = Option A × List ℕ} {E = LocatedFault} (Truncated, []) (fault, left) e)
optional_ends reading ends (zero ∷ bytes) fault left are e = absurd cc
optional_ends reading ends (suc zero ∷ bytes) fault left are e =
    elim (bind_err (reading bytes) (λ x. Ok (Some x.0, x.1)) (fault, left) e) [
      | inl p ↦ after (1 ∷ []) bytes left (ends bytes fault left (tail_are_bytes 1 bytes are) p)
      | inr a ↦ absurd (let q = a.2 in cc)
    ]
optional_ends {A = A} reading ends (suc (suc b) ∷ bytes) fault left are e = at_whole (suc (suc b) ∷ bytes) UnknownTag fault left (err_is {A = Option A × List ℕ} {E = LocatedFault} (UnknownTag, suc (suc b) ∷ bytes) (fault, left) e)

pub alternative_ends : {A B : Type 0} (tag : ℕ) (first_at : List ℕ → Result (A × List ℕ) LocatedFault) (second_at : List ℕ → Result (B × List ℕ) LocatedFault) → Ends first_at → Ends second_at → Ends (alternative_at tag first_at second_at)
alternative_ends {A = A} {B = B} tag first_at second_at ends_first ends_second [] fault left are e = at_whole [] Truncated fault left (err_is {A = (A ⊎ B) × List ℕ} {E = LocatedFault} (Truncated, []) (fault, left) e)
alternative_ends tag first_at second_at ends_first ends_second (b ∷ bytes) fault left are e =
    elim (chosen (eqb b tag) (seen_at inl first_at bytes) (seen_at inr second_at (b ∷ bytes)) (Err (fault, left)) e) [
      | inl p ↦ after (b ∷ []) bytes left (seen_ends inl first_at ends_first bytes fault left (tail_are_bytes b bytes are) p.1)
      | inr p ↦ seen_ends inr second_at ends_second (b ∷ bytes) fault left are p.1
    ]

pub headed_ends : {A : Type 0} (tag : ℕ) (wrong : FieldFault) (reading : List ℕ → Result (A × List ℕ) LocatedFault) → Ends reading → Ends (headed_at tag wrong reading)
headed_ends {A = A} tag wrong reading ends [] fault left are e = at_whole [] Truncated fault left (err_is {A = A × List ℕ} {E = LocatedFault} (Truncated, []) (fault, left) e)
headed_ends {A = A} tag wrong reading ends (b ∷ bytes) fault left are e =
    elim (chosen (eqb b tag) (reading bytes) (Err (wrong, b ∷ bytes)) (Err (fault, left)) e) [
      | inl p ↦ after (b ∷ []) bytes left (ends bytes fault left (tail_are_bytes b bytes are) p.1)
      | inr p ↦ at_whole (b ∷ bytes) wrong fault left (err_is {A = A × List ℕ} {E = LocatedFault} (wrong, b ∷ bytes) (fault, left) p.1)
    ]
