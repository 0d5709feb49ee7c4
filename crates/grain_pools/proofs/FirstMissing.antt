-- The first index that finds nothing, of look-ups in a row.
use Rattle.std.proofs.Common.{◌≡◌, ◌∙◌, List, ◌++◌, Option, Some, None, Result, MatchResult, ap, subst, sym}
use Rattle.std.specs.Option.{option_or}
use Rattle.std.proofs.lemmas.List.Folds.{find-append}
use Rattle.grain_pools.specs.LookedUp.{LooksUp, NamesFirst, NamesMissing, Sought, first_missing, is_missing}
use Rattle.grain_pools.specs.Pools.{Pools}
use Rattle.grain_pools.specs.declared.text.error.DisassembleError.{DisassembleError}
use Rattle.grain_pools.specs.declared.text.error.DisassembleError.TheVariants as errors

-- the first of the earlier ones, else the first of the later ones
pub first_missing_append : (p : Pools) (xs ys : List Sought) → first_missing p (xs ++ ys) ≡ option_or (first_missing p xs) (first_missing p ys)
first_missing_append p xs ys = find-append (is_missing p) xs ys

-- where nothing is missing before, the later ones decide
pub later_decide : {T : Type 0} (p : Pools) (xs ys : List Sought) (r : Result T DisassembleError) → first_missing p xs ≡ None → LooksUp p (λ _. ys) r → LooksUp p (λ _. xs ++ ys) r
later_decide p xs ys r none h =
    let same : first_missing p (xs ++ ys) ≡ first_missing p ys = first_missing_append p xs ys ∙ ap (λ (o : Option Sought). option_or o (first_missing p ys)) none in
    let P : Option Sought → Type 0 = λ o. MatchResult r (λ _. o ≡ None) (NamesFirst o) in
    subst P (sym same) h

NamesFirst-or : (o z : Option Sought) (error : DisassembleError) → NamesFirst o error → NamesFirst (option_or o z) error
NamesFirst-or None z (errors.Missing what index) h = absurd h
NamesFirst-or None z errors.OutOfMemory h = h
NamesFirst-or (Some x) z error h = h

-- what an error names among the earlier ones
pub earlier_named : (p : Pools) (xs ys : List Sought) (error : DisassembleError) → NamesMissing p (λ _. xs) error → NamesMissing p (λ _. xs ++ ys) error
earlier_named p xs ys error h =
    let P : Option Sought → Type 0 = λ o. NamesFirst o error in
    subst P (sym (first_missing_append p xs ys)) (NamesFirst-or (first_missing p xs) (first_missing p ys) error h)
