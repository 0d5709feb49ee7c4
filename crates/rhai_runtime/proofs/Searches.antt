-- What a search for a function by its name finds, and what it says that the program doesn't have.
use Rattle.std.proofs.Common.{◌≡◌, ◌↔◌, ℕ, Bool, true, false, List, [], ◌∷◌, Option, Some, None, IfSome, get_or, arith, refl, sym, rules}
use Rattle.std.specs.Prelude.{slice_get}
use Rattle.std.specs.List.{All, position}
use Rattle.std.proofs.lemmas.Bool.Decides.{nat_tests}
use Rattle.std.proofs.lemmas.Grind.{common_steps}
use Rattle.std.proofs.lemmas.List.Quantifiers.{position-Some}
use Rattle.std.proofs.lemmas.List.Sums.{fails_before_first}
use Rattle.std.proofs.lemmas.Option.{get_or_from_slice_get, none-some, slice_get-get_or, slice_get_within}
use Rattle.grain.specs.Lookups.{is_named}
use Rattle.grain.specs.Program.{Program}
use Rattle.rhai_runtime.specs.Named.{IsFunctionNamed, LacksFunction}

-- where no place is found, no element passes
none_passes : {X : Type 0} (p : X → Bool) (xs : List X) → position p xs ≡ None → All (λ x. p x ≡ false) xs
none_passes p xs none k d within = grind (arith, nat_tests, fails_before_first p xs k d)

-- an element passes at the place that is found
passes_at : {X : Type 0} (p : X → Bool) (xs : List X) (i : ℕ) → position p xs ≡ Some i → (x : X) × (slice_get xs i ≡ Some x) × (p x ≡ true)
passes_at p [] i found = search rules
passes_at p (x ∷ xs) i found =
    let facts = position-Some p (x ∷ xs) i x found in
    (get_or (x ∷ xs) i x, slice_get-get_or (x ∷ xs) i x facts.0, facts.1)

-- a program doesn't lack a function that is there
lacks_named : (p : Program) (name : List ℕ) (params index : ℕ) → LacksFunction p name params → IsFunctionNamed p name params index → ⊥
lacks_named p name params index lacks is =
    let fails = lacks index is.function (slice_get_within p.functions index is.function is.there) in
    let same = get_or_from_slice_get p.functions index is.function is.function is.there in
    grind (arith, common_steps, fails, same, is.named)

-- one is found, and the program doesn't lack it
pub found_named : (p : Program) (name : List ℕ) (params index : ℕ) → IsFunctionNamed p name params index → (Some index ≡ None) ↔ LacksFunction p name params
found_named p name params index is =
    (λ none. absurd (none-some index (sym none)), λ lacks. absurd (lacks_named p name params index lacks is))

named_first : (p : Program) (name : List ℕ) (params index : ℕ) → position (is_named p.names name params) p.functions ≡ Some index → IsFunctionNamed p name params index
named_first p name params index found =
    let passes = passes_at (is_named p.names name params) p.functions index found in
    record { function = passes.0; there = passes.1; named = passes.2 }

-- what the search finds is named so
pub found_first : (p : Program) (name : List ℕ) (params : ℕ) (given : Option ℕ) → given ≡ position (is_named p.names name params) p.functions → IfSome given (IsFunctionNamed p name params)
found_first p name params None first = tt
found_first p name params (Some index) first = named_first p name params index (sym first)

-- it finds nothing if and only if the program lacks the function
pub none_first : (p : Program) (name : List ℕ) (params : ℕ) (given : Option ℕ) → given ≡ position (is_named p.names name params) p.functions → (given ≡ None) ↔ LacksFunction p name params
none_first p name params None first =
    (λ none. none_passes (is_named p.names name params) p.functions (sym first), λ lacks. refl)
none_first p name params (Some index) first =
    found_named p name params index (named_first p name params index (sym first))
