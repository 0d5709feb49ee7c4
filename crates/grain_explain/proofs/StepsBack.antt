-- Steps back to the entry, and how many places were visited.
use Rattle.std.specs.Prelude.{⊤, MatchOption}
use Rattle.std.proofs.Common.{◌≡◌, ◌<◌, ◌≤◌, ◌+◌, ◌∙◌, ℕ, zero, suc, List, length, get_or, set, cond, Option, Some, None, refl, sym, ap, subst, arith}
use Rattle.std.specs.Option.{is_some}
use Rattle.std.proofs.lemmas.List.{get_or-set_other}
use Rattle.std.proofs.lemmas.List.Sums.{count_by-le-length, sum_by-set}
use Rattle.std.proofs.lemmas.Option.{none-some, same_Some}
use Rattle.grain_explain.specs.Scenes.{IsWithinSteps, LeadsBack, visit_count}
use Rattle.grain_explain.specs.declared.arrival.Arrival.{Arrival}

-- what was visited in one list of places was visited in the other
abbrev pub Stays : List (Option Arrival) → List (Option Arrival) → Type 0
Stays slots more = (k : ℕ) (y : Arrival) → get_or slots k None ≡ Some y → get_or more k None ≡ Some y

step_back : (P Q : Arrival → Type 0) (slots more : List (Option Arrival)) (o : Option ℕ) → Stays slots more → ((y : Arrival) → P y → Q y)
    → MatchOption o ⊤ (λ k. (y : Arrival) × (get_or slots k None ≡ Some y) × P y) → MatchOption o ⊤ (λ k. (y : Arrival) × (get_or more k None ≡ Some y) × Q y)
step_back P Q slots more None stays f h = tt
step_back P Q slots more (Some k) stays f (y, e, p) = (y, stays k y e, f y p)

pub leads_more : (slots more : List (Option Arrival)) → Stays slots more → (n m : ℕ) (a : Arrival) → n ≤ m → LeadsBack slots n a → LeadsBack more m a
leads_more slots more stays zero m a l h = absurd h
leads_more slots more stays (suc n) zero a l h = absurd (omega arith)
leads_more slots more stays (suc n) (suc m) a l h =
    step_back (LeadsBack slots n) (LeadsBack more m) slots more a.from stays (λ y. leads_more slots more stays n m y (omega arith)) h

-- the step before
pub back_from : (slots : List (Option Arrival)) (n : ℕ) (a y : Arrival) (k : ℕ) → a.from ≡ Some k → get_or slots k None ≡ Some y → LeadsBack slots n a → (m : ℕ) × (n ≡ suc m) × LeadsBack slots m y
back_from slots zero a y k from held h = absurd h
back_from slots (suc n) a y k from held h =
    let (z, there, back) = rw from at h in
    (n, refl, subst (LeadsBack slots n) (same_Some z y (sym there ∙ held)) back)

pub bounded_more : (slots more : List (Option Arrival)) → Stays slots more → (n m : ℕ) (a : Arrival) → n ≤ m → IsWithinSteps slots n a → IsWithinSteps more m a
bounded_more slots more stays n m a l h = record {
  back = leads_more slots more stays (suc n) (suc m) a (omega arith) h.back;
  operands = (let k = h.operands in omega arith);
  iterators = (let k = h.iterators in omega arith);
}

-- where a free place is set, what was visited stays
pub stays_set : (slots : List (Option Arrival)) (j : ℕ) (a : Arrival) → get_or slots j None ≡ None → Stays slots (set slots j (Some a))
stays_set slots j a free k y e = get_or-set_other slots j k (Some a) None (λ same. none-some y (sym free ∙ (ap (λ n. get_or slots n None) (sym same) ∙ e))) ∙ e

abbrev one_if_some : Option Arrival → ℕ
one_if_some o = cond (is_some o) 1 0

-- and there is one visit more
pub visit_more : (slots : List (Option Arrival)) (j : ℕ) (a : Arrival) → j < length slots → get_or slots j None ≡ None → visit_count (set slots j (Some a)) ≡ visit_count slots + 1
visit_more slots j a inside free =
    let h = sum_by-set one_if_some slots j (Some a) None inside in
    let e : one_if_some (get_or slots j None) ≡ 0 = ap one_if_some free in
    omega (arith, h, e)

-- no more places were visited than there are
pub visits_few : (slots : List (Option Arrival)) → visit_count slots ≤ length slots
visits_few slots = count_by-le-length is_some slots
