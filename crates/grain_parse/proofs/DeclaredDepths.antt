-- One chunk more declares its depth.
use Rattle.std.proofs.Common.{◌≡◌, ℕ, ◌<◌, ◌≤◌, inl, inr, List, [], ◌∷◌, ◌++◌, get_or, length, refl, sym, ap, ◌∙◌, subst, arith}
use Rattle.std.specs.List.{Contains}
use Rattle.std.proofs.Math.ListN.{set}
use Rattle.std.proofs.lemmas.Bool.{cases_lt}
use Rattle.std.proofs.lemmas.List.{get_or-set_other, get_or-set_same, length-set}
use Rattle.std.proofs.lemmas.List.Elements.{Contains-append_left, Contains-push, Contains-push_cases}
use Rattle.grain_rules.proofs.Splits.{in_nil}
use Rattle.grain_parse.specs.Depths.{DeclareDepths}

-- none yet
pub none_declared : (depths old : List ℕ) → DeclareDepths [] depths old old
none_declared depths old = record { count = refl; opened = λ i c within. absurd (in_nil i c); others = λ i none. refl }

module _ (indices depths old now : List ℕ) (at : ℕ) (h : DeclareDepths indices depths old now) where
  earlier : (i : ℕ) → Contains (indices ++ at ∷ []) i → (i ≡ at → ⊥) → Contains indices i
  earlier i c other = elim (Contains-push_cases indices at i c) [ inl before ↦ before | inr same ↦ absurd (other (sym same)) ]

  later : (i : ℕ) → Contains indices i → Contains (indices ++ at ∷ []) i
  later i c = Contains-append_left indices (at ∷ []) i c

  here : (i : ℕ) → i ≡ at → Contains (indices ++ at ∷ []) i
  here i e = subst (λ (k : ℕ). Contains (indices ++ at ∷ []) k) (sym e) (Contains-push indices at)

  pub one_declared : at < length now → DeclareDepths (indices ++ at ∷ []) depths old (set now at (get_or depths at 0))
  one_declared within = record {
    count = length-set now at (get_or depths at 0) ∙ h.count;
    opened = λ i c inside. elim (cases_lt i at) [
      | inl below ↦ get_or-set_other now at i (get_or depths at 0) 0 (λ e. omega (arith, e, below)) ∙ h.opened i (earlier i c (λ e. omega (arith, e, below))) inside
      | inr above ↦ elim (cases_lt at i) [
        | inl over ↦ get_or-set_other now at i (get_or depths at 0) 0 (λ e. omega (arith, e, over)) ∙ h.opened i (earlier i c (λ e. omega (arith, e, over))) inside
        | inr under ↦ let same : i ≡ at = omega arith in ap (λ (k : ℕ). get_or (set now at (get_or depths at 0)) k 0) same ∙ get_or-set_same now at (get_or depths at 0) 0 within ∙ ap (λ (k : ℕ). get_or depths k 0) (sym same)
      ]
    ];
    others = λ i none. get_or-set_other now at i (get_or depths at 0) 0 (λ e. none (here i e)) ∙ h.others i (λ c. none (later i c));
  }

  pub none_there : length now ≤ at → DeclareDepths (indices ++ at ∷ []) depths old now
  none_there far = record {
    count = h.count;
    opened = λ i c inside. h.opened i (earlier i c (λ e. let l = h.count in omega (arith, e, l))) inside;
    others = λ i none. h.others i (λ c. none (later i c));
  }
