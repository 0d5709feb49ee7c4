-- How many bytes names have, and names that are appended one by one.
use Rattle.std.proofs.Common.{◌≡◌, ℕ, ◌+◌, ◌<◌, ◌^◌, List, [], ◌∷◌, ◌++◌, length, Option, None, Some, refl, ap, ◌∙◌, arith, append_assoc, length-append}
use Rattle.std.specs.Prelude.{slice_get, IfSome}
use Rattle.std.specs.List.{concat, flat_map, AllByRecursion}
use Rattle.grain_pools.specs.Names.{starts_of}
use Rattle.grain_format.specs.Texts.{counted_bytes}
use Rattle.grain_format.specs.Refusals.{counted_refusal}
use Rattle.grain_format.specs.TextLaws.{TextFits}

last_start : (from : ℕ) (names : List (List ℕ)) → slice_get (starts_of from names) (length names) ≡ Some (from + length (concat names))
last_start from [] = ap (λ (n : ℕ). Some n) (omega arith)
last_start from (name ∷ names) =
    let same : (from + length name) + length (concat names) ≡ from + length (name ++ concat names) = omega (arith, length-append name (concat names)) in
    last_start (from + length name) names ∙ ap (λ (n : ℕ). Some n) same

pub end_of_all : (names : List (List ℕ)) → slice_get (starts_of 0 names) (length names) ≡ Some (length (concat names))
end_of_all names = last_start 0 names ∙ ap (λ (n : ℕ). Some n) (omega arith)

pub short : (len : Option ℕ) (n : ℕ) → len ≡ Some n → IfSome len (λ l. l < 2 ^ 32) → n < 2 ^ 32
short len n is small = rw is at small

pub one_name : (out new name : List ℕ) (left rest : List (List ℕ)) (total : List ℕ) → left ≡ name ∷ rest → new ≡ out ++ counted_bytes name → out ++ flat_map counted_bytes left ≡ total → new ++ flat_map counted_bytes rest ≡ total
one_name out new name left rest total is e so_far =
    rw e (append_assoc out (counted_bytes name) (flat_map counted_bytes rest) ∙ (rw is at so_far))

pub one_fits : (name : List ℕ) (left rest : List (List ℕ)) (All : Type 0) → left ≡ name ∷ rest → TextFits name → (AllByRecursion TextFits left → All) → AllByRecursion TextFits rest → All
one_fits name left rest All is fits so_far others = so_far (rw is (fits, others))

pub all_fit : (left : List (List ℕ)) (All : Type 0) → left ≡ [] → (AllByRecursion TextFits left → All) → All
all_fit left All is so_far = so_far (rw is tt)

pub none_refused : (names : List (List ℕ)) → counted_refusal (λ (b : List ℕ). None) names ≡ None
none_refused [] = refl
none_refused (name ∷ names) = none_refused names
