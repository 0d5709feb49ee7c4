-- Lists of numbers each of which is below the next, by their first ones.
use Rattle.std.proofs.Common.{◌≡◌, ℕ, zero, suc, ◌+◌, ◌<◌, ◌≤◌, List, [], ◌∷◌, get_or, ap, arith}
use Rattle.std.specs.List.Sorted.{IsStrictlyIncreasing}

pub rises_next : (a b : ℕ) (xs : List ℕ) → IsStrictlyIncreasing (a ∷ b ∷ xs) → a < b
rises_next a b xs rises = rises 0 (omega arith)

pub rises_rest : (a : ℕ) (xs : List ℕ) → IsStrictlyIncreasing (a ∷ xs) → IsStrictlyIncreasing xs
rises_rest a xs rises k below = let next : suc k + 1 ≡ suc (k + 1) = omega arith in omega (arith, rises (suc k) (omega arith), ap (λ i. get_or (a ∷ xs) i 0) next)

pub rises_none : IsStrictlyIncreasing []
rises_none k below = absurd (omega arith)

pub rises_one : (a : ℕ) → IsStrictlyIncreasing (a ∷ [])
rises_one a k below = absurd (omega arith)

pub rises_cons : (a b : ℕ) (xs : List ℕ) → a < b → IsStrictlyIncreasing (b ∷ xs) → IsStrictlyIncreasing (a ∷ b ∷ xs)
rises_cons a b xs less rises zero below = less
rises_cons a b xs less rises (suc k) below = let next : suc k + 1 ≡ suc (k + 1) = omega arith in omega (arith, rises k (omega arith), ap (λ i. get_or (a ∷ b ∷ xs) i 0) next)

-- Each number is below the next, and the first is no less than this one.
abbrev pub RisesFrom : ℕ → List ℕ → Type 0
RisesFrom least [] = Unit {0}
RisesFrom least (x ∷ xs) = (least ≤ x) × RisesFrom (x + 1) xs

rises_behind : (a : ℕ) (xs : List ℕ) → IsStrictlyIncreasing (a ∷ xs) → RisesFrom (a + 1) xs
rises_behind a [] rises = tt
rises_behind a (x ∷ xs) rises = (omega (arith, rises_next a x xs rises), rises_behind x xs (rises_rest a (x ∷ xs) rises))

pub rises_from : (xs : List ℕ) → IsStrictlyIncreasing xs → RisesFrom 0 xs
rises_from [] rises = tt
rises_from (x ∷ xs) rises = (omega arith, rises_behind x xs rises)

pub rises_up : (least : ℕ) (xs : List ℕ) → RisesFrom least xs → IsStrictlyIncreasing xs
rises_up least [] rises = rises_none
rises_up least (x ∷ []) rises = rises_one x
rises_up least (x ∷ y ∷ xs) rises = rises_cons x y xs (omega (arith, rises.1.0)) (rises_up (x + 1) (y ∷ xs) rises.1)
