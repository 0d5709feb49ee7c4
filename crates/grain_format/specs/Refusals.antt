-- What of fields is kept by no file, and that of what fits all is kept.
use Rattle.std.proofs.Common.{◌≡◌, List, [], ◌∷◌, Option, Some, None, refl, ◌∙◌, ap, inl, inr, ◌⊎◌}
use Rattle.std.specs.Prelude.{IfSome}
use Rattle.std.specs.List.{AllByRecursion}
use Rattle.grain_format.specs.declared.error.Unkept.{Unkept}
use Rattle.grain_format.specs.Reading.{or_refused, KeepsAll}
use Rattle.grain_format.specs.Lists.{BothFit, DependingFit, CountedFit, AlternativeFits}

abbrev pub both_refusal : {A B : Type 0} → (A → Option Unkept) → (B → Option Unkept) → A × B → Option Unkept
both_refusal first second p = or_refused (first p.0) (second p.1)

abbrev pub depending_refusal : {A B : Type 0} → (A → Option Unkept) → (A → B → Option Unkept) → A × B → Option Unkept
depending_refusal first second p = or_refused (first p.0) (second p.0 p.1)

-- the first reason against one of them
abbrev pub counted_refusal : {A : Type 0} → (A → Option Unkept) → List A → Option Unkept
counted_refusal refusal [] = None
counted_refusal refusal (x ∷ xs) = or_refused (refusal x) (counted_refusal refusal xs)

abbrev pub optional_refusal : {A : Type 0} → (A → Option Unkept) → Option A → Option Unkept
optional_refusal refusal None = None
optional_refusal refusal (Some x) = refusal x

abbrev pub alternative_refusal : {A B : Type 0} → (A → Option Unkept) → (B → Option Unkept) → A ⊎ B → Option Unkept
alternative_refusal first second (inl x) = first x
alternative_refusal first second (inr y) = second y

pub all_keeps : {A : Type 0} (Fits : A → Type 0) → KeepsAll Fits (λ x. None)
all_keeps Fits x fits = refl

pub depending_keeps : {A B : Type 0} (First : A → Type 0) (first : A → Option Unkept) (Second : A → B → Type 0) (second : A → B → Option Unkept) → KeepsAll First first → ((x : A) → KeepsAll (Second x) (second x)) → KeepsAll (DependingFit First Second) (depending_refusal first second)
depending_keeps First first Second second keep_first keep_second p fits = rw (keep_first p.0 fits.0) (keep_second p.0 p.1 fits.1)

module _ {A B : Type 0} (First : A → Type 0) (first : A → Option Unkept) (Second : B → Type 0) (second : B → Option Unkept) where
  pub both_keeps : KeepsAll First first → KeepsAll Second second → KeepsAll (BothFit First Second) (both_refusal first second)
  both_keeps keep_first keep_second = depending_keeps First first (λ x. Second) (λ x. second) keep_first (λ x. keep_second)

  pub alternative_keeps : KeepsAll First first → KeepsAll Second second → KeepsAll (AlternativeFits First Second) (alternative_refusal first second)
  alternative_keeps keep_first keep_second (inl x) fits = keep_first x fits
  alternative_keeps keep_first keep_second (inr y) fits = keep_second y fits

module _ {A : Type 0} (Fits : A → Type 0) (refusal : A → Option Unkept) where
  pub each_keeps : KeepsAll Fits refusal → (xs : List A) → AllByRecursion Fits xs → counted_refusal refusal xs ≡ None
  each_keeps keeps [] fits = refl
  each_keeps keeps (x ∷ xs) fits = rw (keeps x fits.0) (each_keeps keeps xs fits.1)

  pub counted_keeps : KeepsAll Fits refusal → KeepsAll (CountedFit Fits) (counted_refusal refusal)
  counted_keeps keeps xs fits = each_keeps keeps xs fits.1

  pub optional_keeps : KeepsAll Fits refusal → KeepsAll (λ o. IfSome o Fits) (optional_refusal refusal)
  optional_keeps keeps None fits = refl
  optional_keeps keeps (Some x) fits = keeps x fits

pub only_keeps : {A : Type 0} (one : A) (refusal : A → Option Unkept) → refusal one ≡ None → KeepsAll (λ x. x ≡ one) refusal
only_keeps one refusal kept x is = ap refusal is ∙ kept
