-- Fields one after another, a number of one kind, and a field that may be there.
use Rattle.std.specs.Prelude.{◌≡◌, ℕ, zero, suc, ◌<◌, ◌^◌, List, [], ◌∷◌, ◌++◌, length, Option, Some, None, Result, Ok, Err, Bool, false, ◌==◌, ◌⊎◌, if◌then◌else◌}
use Rattle.std.proofs.Common.{inl, inr}
use Rattle.std.specs.List.{flat_map, AllByRecursion}
use Rattle.grain_format.specs.declared.error.FieldFault.{FieldFault}
use Rattle.grain_format.specs.declared.error.FieldFault.TheVariants.{Truncated, UnknownTag}
use Rattle.grain_format.specs.Reading.{LocatedFault, ◌>>=◌}
use Rattle.grain_format.specs.Numbers.{number, number_at}

-- one field, and then another
abbrev pub both_spelling : {A B : Type 0} → (A → List ℕ) → (B → List ℕ) → A × B → List ℕ
both_spelling first second p = first p.0 ++ second p.1

abbrev pub BothFit : {A B : Type 0} → (A → Type 0) → (B → Type 0) → A × B → Type 0
BothFit First Second p = First p.0 × Second p.1

abbrev pub both_at : {A B : Type 0} → (List ℕ → Result (A × List ℕ) LocatedFault) → (List ℕ → Result (B × List ℕ) LocatedFault) → List ℕ → Result ((A × B) × List ℕ) LocatedFault
both_at first second bytes = first bytes >>= λ a. (second a.1 >>= λ b. Ok ((a.0, b.0), b.1))

-- one field, and then another, which depends on the first
abbrev pub depending_spelling : {A B : Type 0} → (A → List ℕ) → (A → B → List ℕ) → A × B → List ℕ
depending_spelling first second p = first p.0 ++ second p.0 p.1

abbrev pub DependingFit : {A B : Type 0} → (A → Type 0) → (A → B → Type 0) → A × B → Type 0
DependingFit First Second p = First p.0 × Second p.0 p.1

abbrev pub depending_at : {A B : Type 0} → (List ℕ → Result (A × List ℕ) LocatedFault) → (A → List ℕ → Result (B × List ℕ) LocatedFault) → List ℕ → Result ((A × B) × List ℕ) LocatedFault
depending_at first second bytes = first bytes >>= λ a. (second a.0 a.1 >>= λ b. Ok ((a.0, b.0), b.1))

-- a field seen otherwise
abbrev pub seen_at : {A B : Type 0} → (A → B) → (List ℕ → Result (A × List ℕ) LocatedFault) → List ℕ → Result (B × List ℕ) LocatedFault
seen_at to reading bytes = reading bytes >>= λ a. Ok (to a.0, a.1)

-- a field that passes a test; a fault stands where the field begins
abbrev pub checked_at : {A : Type 0} → (A → Bool) → FieldFault → (List ℕ → Result (A × List ℕ) LocatedFault) → List ℕ → Result (A × List ℕ) LocatedFault
checked_at test fault reading bytes = reading bytes >>= λ x. (if test x.0 then Ok x else Err (fault, bytes))

-- a number of fields of one kind
unfoldable pub repeat_at : {A : Type 0} → (List ℕ → Result (A × List ℕ) LocatedFault) → ℕ → List ℕ → Result (List A × List ℕ) LocatedFault
repeat_at reading zero bytes = Ok ([], bytes)
repeat_at reading (suc n) bytes = reading bytes >>= λ x. (repeat_at reading n x.1 >>= λ xs. Ok (x.0 ∷ xs.0, xs.1))

-- how many, and each
abbrev pub counted_spelling : {A : Type 0} → (A → List ℕ) → List A → List ℕ
counted_spelling spelling xs = number (length xs) ++ flat_map spelling xs

abbrev pub CountedFit : {A : Type 0} → (A → Type 0) → List A → Type 0
CountedFit Fits xs = (length xs < 2 ^ 64) × AllByRecursion Fits xs

abbrev pub counted_at : {A : Type 0} → (List ℕ → Result (A × List ℕ) LocatedFault) → List ℕ → Result (List A × List ℕ) LocatedFault
counted_at reading bytes = number_at bytes >>= λ n. repeat_at reading n.0 n.1

-- 0, or 1 and a field
abbrev pub optional_spelling : {A : Type 0} → (A → List ℕ) → Option A → List ℕ
optional_spelling spelling None = 0 ∷ []
optional_spelling spelling (Some x) = 1 ∷ spelling x

abbrev pub optional_at : {A : Type 0} → (List ℕ → Result (A × List ℕ) LocatedFault) → List ℕ → Result (Option A × List ℕ) LocatedFault
optional_at reading [] = Err (Truncated, [])
optional_at reading (zero ∷ rest) = Ok (None, rest)
optional_at reading (suc zero ∷ rest) = reading rest >>= λ x. Ok (Some x.0, x.1)
optional_at reading (suc (suc b) ∷ rest) = Err (UnknownTag, suc (suc b) ∷ rest)

-- a tag and a field, or else a field that begins with no such tag
abbrev pub alternative_spelling : {A B : Type 0} → ℕ → (A → List ℕ) → (B → List ℕ) → A ⊎ B → List ℕ
alternative_spelling tag first second (inl x) = tag ∷ first x
alternative_spelling tag first second (inr y) = second y

abbrev pub AlternativeFits : {A B : Type 0} → (A → Type 0) → (B → Type 0) → A ⊎ B → Type 0
AlternativeFits First Second (inl x) = First x
AlternativeFits First Second (inr y) = Second y

abbrev pub alternative_at : {A B : Type 0} → ℕ → (List ℕ → Result (A × List ℕ) LocatedFault) → (List ℕ → Result (B × List ℕ) LocatedFault) → List ℕ → Result ((A ⊎ B) × List ℕ) LocatedFault
alternative_at tag first second [] = Err (Truncated, [])
alternative_at tag first second (b ∷ rest) = if b == tag then seen_at inl first rest else seen_at inr second (b ∷ rest)

-- the bytes begin with another tag
abbrev pub BeginsOtherwise : ℕ → List ℕ → Type 0
BeginsOtherwise tag [] = ⊥
BeginsOtherwise tag (b ∷ rest) = (b == tag) ≡ false

-- a tag, and a field behind it
abbrev pub headed_at : {A : Type 0} → ℕ → FieldFault → (List ℕ → Result (A × List ℕ) LocatedFault) → List ℕ → Result (A × List ℕ) LocatedFault
headed_at tag fault reading [] = Err (Truncated, [])
headed_at tag fault reading (b ∷ rest) = if b == tag then reading rest else Err (fault, b ∷ rest)
