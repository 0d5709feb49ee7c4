-- Where an entry is wrong, the form isn't flat.
use Rattle.std.proofs.Common.{◌≡◌, ℕ, ◌+◌, ◌-◌, ◌<◌, ◌≤◌, suc, zero, inl, inr, List, [], ◌∷◌, Bool, true, false, Option, Some, None, get_or, add-one, length, take, drop, cond, nat_eq, refl, subst, sym, ap, ◌∙◌, arith}
use Rattle.std.specs.Prelude.{is_some, not, MatchBool, MatchOption}
use Rattle.std.specs.List.{All, AllWithin}
use Rattle.std.specs.Option.{option_or}
use Rattle.std.proofs.lemmas.Bool.{cases_lt}
use Rattle.std.proofs.lemmas.Bool.Decides.{nat_tests}
use Rattle.std.proofs.lemmas.List.{drop_all, drop_more, get_or-drop, get_or_default, take_rest}
use Rattle.std.proofs.lemmas.List.Sums.{sum_by-take-le}
use Rattle.grain_pools.specs.Names.{first_flaw, flaw_from, span_flaw}
use Rattle.grain_pools.specs.declared.strings.BadTable.{BadTable}
use Rattle.grain_flat.specs.Flat.{IsFlat, Pooled}
use Rattle.grain_flat.specs.PoolsFlaws.{ArmsFlaw, IsBadName, IsNameCut, IsFirstOther, PoolsFlaw, StepsFlaw, all_cases, all_ranges, all_steps, chain_overruns, step_left, switch_overruns, case_left, range_left, wrong_constant, wrong_chain, wrong_step, wrong_steps, wrong_arms, wrong_name}
use Rattle.grain_flat.specs.declared.records.CPools.{CPools}
use Rattle.grain_flat.specs.declared.records.CPoolsFlaw.{CPoolsFlaw}
use Rattle.grain_flat.specs.declared.records.CChain.{CChain}
use Rattle.grain_flat.specs.declared.records.CSwitch.{CSwitch}
use Rattle.grain_flat.proofs.Flatness.{is_flat}

-- what holds of the first entries and of the next
pub within_more : {A : Type 0} (P : A → Type 0) (xs : List A) (i : ℕ) (x : A) → i < length xs → AllWithin P xs 0 i → P (get_or xs i x) → AllWithin P xs 0 (i + 1)
within_more P xs i x inside before here k d low high =
    elim (cases_lt k i) [
      | inl less ↦ before k d low less
      | inr more ↦ let same : i ≡ k = omega arith in subst (λ (j : ℕ). P (get_or xs j d)) same (subst P (get_or_default xs i x d inside) here)
    ]

other : {A : Type 0} (P : A → Type 0) (xs : List A) (i : ℕ) → IsFirstOther P xs i → All P xs → ⊥
other P [] i h all = let inside : i < 0 = h.inside in omega arith
other P (x ∷ xs) i h all = h.here x (all i x h.inside)

steps_add : (chains : List CChain) (steps : ℕ) (flaw : CPoolsFlaw) → StepsFlaw chains steps flaw → all_steps chains ≡ steps → ⊥
steps_add chains steps _ (chain_overruns {index} inside earlier here) same = let most = sum_by-take-le (λ (c : CChain). c.steps) chains (index + 1) in omega arith
steps_add chains steps _ (step_left {index} inside left) same = omega arith

arms_add : (switches : List CSwitch) (cases ranges : ℕ) (flaw : CPoolsFlaw) → ArmsFlaw switches cases ranges flaw → all_cases switches ≡ cases → all_ranges switches ≡ ranges → ⊥
arms_add switches cases ranges _ (switch_overruns {index} inside earlier here) same alike =
    let most = sum_by-take-le (λ (s : CSwitch). s.cases) switches (index + 1) in
    let last = sum_by-take-le (λ (s : CSwitch). s.ranges) switches (index + 1) in
    here (omega arith, omega arith)
arms_add switches cases ranges _ (case_left {index} inside left) same alike = omega arith
arms_add switches cases ranges _ (range_left {index} all inside left) same alike = omega arith

-- where all is cut from here on, so is each name of it
cut_from : (blob : List ℕ) (from : ℕ) (starts : List ℕ) → flaw_from blob from starts ≡ None → (k : ℕ) → k < length starts → span_flaw blob (get_or (from ∷ starts) k 0) (get_or starts k 0) ≡ None
cut_from blob from [] h k inside = absurd (omega arith)
cut_from blob from (to ∷ starts) h zero inside = first (span_flaw blob from to) h
  where
    first : (o : Option BadTable) → option_or o (flaw_from blob to starts) ≡ None → o ≡ None
    first None h = refl
    first (Some e) h = absurd (cc)
cut_from blob from (to ∷ starts) h (suc k) inside = cut_from blob to starts (later (span_flaw blob from to) h) k (omega arith)
  where
    later : (o : Option BadTable) → option_or o (flaw_from blob to starts) ≡ None → flaw_from blob to starts ≡ None
    later None h = h
    later (Some e) h = absurd (cc)

-- and the last one ends where the bytes do
ends_from : (blob : List ℕ) (from : ℕ) (starts : List ℕ) → flaw_from blob from starts ≡ None → get_or (from ∷ starts) (length starts) 0 ≡ length blob
ends_from blob from [] h = grind (arith, nat_tests, h)
ends_from blob from (to ∷ starts) h = ends_from blob to starts (later (span_flaw blob from to) h)
  where
    later : (o : Option BadTable) → option_or o (flaw_from blob to starts) ≡ None → flaw_from blob to starts ≡ None
    later None h = h
    later (Some e) h = absurd (cc)

begun : (b : Bool) (o : Option BadTable) (e : BadTable) → cond b o (Some e) ≡ None → o ≡ None
begun true o e h = h
begun false o e h = absurd (cc)

bad_name : (blob starts : List ℕ) (index : ℕ) → IsBadName blob starts index → first_flaw blob starts ≡ None → ⊥
bad_name blob [] index h none = cc
bad_name blob (from ∷ starts) index (inl h) none = grind (arith, nat_tests, h.0, none)
bad_name blob (from ∷ starts) index (inr (inl h)) none =
    let cut = cut_from blob from starts (begun (nat_eq from 0) (flaw_from blob from starts) _ none) index (omega (arith, h.1)) in
    h.2 (subst (λ (k : ℕ). span_flaw blob (get_or (from ∷ starts) index 0) (get_or (from ∷ starts) k 0) ≡ None) (sym (add-one index)) cut)
bad_name blob (from ∷ starts) index (inr (inr h)) none =
    let ends = ends_from blob from starts (begun (nat_eq from 0) (flaw_from blob from starts) _ none) in
    let last : length starts ≡ index = omega (arith, h.1) in
    h.2 (subst (λ (k : ℕ). get_or (from ∷ starts) k 0 ≡ length blob) last ends)

-- where an entry is wrong, the form isn't flat
pub not_flat : (p : CPools) (flaw : CPoolsFlaw) → PoolsFlaw p flaw → IsFlat p → ⊥
not_flat p _ (wrong_constant {index} h) flat = other _ p.constants.now index h flat.constants
not_flat p _ (wrong_chain {index} constants h) flat = other _ p.chains.now index h flat.chains
not_flat p _ (wrong_step {index} constants chains h) flat = other _ p.steps.now index h flat.steps
not_flat p flaw (wrong_steps rows h) flat = steps_add p.chains.now (length p.steps.now) flaw h flat.step_counts
not_flat p flaw (wrong_arms stepped h) flat = arms_add p.switches.now (length p.cases.now) (length p.ranges.now) flaw h flat.case_counts flat.range_counts
not_flat p _ (wrong_name {index} armed h) flat = bad_name p.names.now p.starts.now index h.here flat.names

-- so no pools have it
pub not_pooled : (p : CPools) (flaw : CPoolsFlaw) → PoolsFlaw p flaw → PoolsFlaw p flaw × (Pooled p → ⊥)
not_pooled p flaw h = (h, λ pooled. not_flat p flaw h (is_flat p pooled))

-- the starts behind the first one
abbrev pub rest_of : List ℕ → List ℕ
rest_of starts = take (length starts - 1) (drop 1 starts)

pub next_start : (starts : List ℕ) (i : ℕ) → get_or (rest_of starts) i 0 ≡ get_or starts (i + 1) 0
next_start starts i =
    let next : 1 + i ≡ i + 1 = omega arith in
    ap (λ (xs : List ℕ). get_or xs i 0) (take_rest starts 1) ∙ get_or-drop 1 starts i 0 ∙ ap (λ (n : ℕ). get_or starts n 0) next

-- what is left decides where this name is cut
pub flaw_after : (blob rest : List ℕ) (from i : ℕ) → i < length rest → span_flaw blob from (get_or rest i 0) ≡ None → flaw_from blob from (drop i rest) ≡ flaw_from blob (get_or rest i 0) (drop (i + 1) rest)
flaw_after blob rest from i inside cut =
    ap (flaw_from blob from) (drop_more rest i 0 inside) ∙ ap (λ (o : Option BadTable). option_or o (flaw_from blob (get_or rest i 0) (drop (i + 1) rest))) cut

pub cut_more : (blob starts : List ℕ) (i : ℕ) → ((k : ℕ) → k < i → IsNameCut blob starts k) → IsNameCut blob starts i → (k : ℕ) → k < i + 1 → IsNameCut blob starts k
cut_more blob starts i before here k inside =
    elim (cases_lt k i) [
      | inl less ↦ before k less
      | inr more ↦ let same : i ≡ k = omega arith in subst (IsNameCut blob starts) same here
    ]

-- nothing is left, and the last name ends where the bytes do
pub flaw_none : (blob rest : List ℕ) (from i : ℕ) → length rest ≤ i → from ≡ length blob → flaw_from blob from (drop i rest) ≡ None
flaw_none blob rest from i past ends = ap (flaw_from blob from) (drop_all i rest past) ∙ grind (arith, nat_tests, ends)

-- the test whether an entry is wrong
pub tested : (A : Type 0) (Q : CPoolsFlaw → Type 0) (o : Option CPoolsFlaw) (b : Bool) → is_some o ≡ not b → MatchOption o A (λ flaw. Q flaw × (A → ⊥)) → MatchBool b A (A → ⊥)
tested A Q None true is h = h
tested A Q None false is h = absurd (cc)
tested A Q (Some flaw) true is h = absurd (cc)
tested A Q (Some flaw) false is h = h.1
