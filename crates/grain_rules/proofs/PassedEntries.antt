-- What has passed, and one entry more.
use Rattle.std.proofs.Common.{◌≡◌, ◌⊎◌, ℕ, List, [], get_or, None, ap, ◌∙◌, inl, inr}
use Rattle.grain_pools.specs.Dispatch.{first_past}
use Rattle.grain_rules.specs.Facts.{Facts}
use Rattle.grain_rules.specs.FirstOut.{CasesPass, ChainsPass, HavePassed, first_out, tests_inside}
use Rattle.grain_rules.specs.Passed.{HasPassed}

pub chains_more : (facts : Facts) (old new : List ℕ) (index : ℕ) → ChainsPass facts old → ((i : ℕ) → HasPassed new i → HasPassed old i ⊎ (i ≡ index))
    → first_out (tests_inside facts index) ≡ None → ChainsPass facts new
chains_more facts old new index passed more here i has = elim (more i has) [
  | inl before ↦ passed i before
  | inr same ↦ ap (λ n. first_out (tests_inside facts n)) same ∙ here
]

pub cases_more : (facts : Facts) (old new : List ℕ) (index : ℕ) → CasesPass facts old → ((i : ℕ) → HasPassed new i → HasPassed old i ⊎ (i ≡ index))
    → first_past facts.consts (get_or facts.cases index []) ≡ None → CasesPass facts new
cases_more facts old new index passed more here i has = elim (more i has) [
  | inl before ↦ passed i before
  | inr same ↦ ap (λ n. first_past facts.consts (get_or facts.cases n [])) same ∙ here
]

-- what has nothing in it has only what passed
pub none_passed : (facts : Facts) (chains switches : List ℕ) → ((i : ℕ) → HasPassed chains i → ⊥) → ((i : ℕ) → HasPassed switches i → ⊥) → HavePassed facts chains switches
none_passed facts chains switches a b = record { chains_pass = λ i has. absurd (a i has); switches_pass = λ i has. absurd (b i has) }
