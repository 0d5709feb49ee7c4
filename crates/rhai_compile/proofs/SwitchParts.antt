-- Where the parts of a switch lead.
use Rattle.std.proofs.Common.{◌≡◌, ℕ, ◌-◌, ◌<◌, inl, inr, List, [], ◌∷◌, ◌++◌, length, get_or, map, Some, sym, ap, subst, ◌∙◌, arith}
use Rattle.std.specs.Prelude.{slice_get}
use Rattle.std.specs.List.{All, Contains}
use Rattle.std.proofs.lemmas.Bool.{cases_lt}
use Rattle.std.proofs.Math.ListN.{get_or-map}
use Rattle.std.proofs.lemmas.List.{get_or-append_right, get_or_append_left, get_or_default, get_or_past, length-map, map-append}
use Rattle.grain_builder.specs.Assembled.{targets_of}
use Rattle.grain_builder.specs.declared.assembler.TableTargets.{TableTargets}
use Rattle.std.proofs.lemmas.List.Elements.{All-contains, All-map, Contains-append_cases, Contains-push_cases}
use Rattle.std.proofs.lemmas.Option.{get_or_from_slice_get, slice_get_within}
use Rattle.grain_pools.specs.Dispatch.{Case, arm_targets}
use Rattle.grain_pools.specs.declared.switch.Switch.{Switch}
use Rattle.grain_pools.specs.declared.switch.SwitchRange.{SwitchRange}
use Rattle.grain_rules.specs.Code.{switch_targets}
use Rattle.grain_builder.specs.Finished.{LeadAmong}
use Rattle.grain.proofs.AssembledParts.{All-before_map}

-- an entry is one of a list
pub entry_in : {A : Type 0} (xs : List A) (i : ℕ) (x : A) → slice_get xs i ≡ Some x → Contains xs x
entry_in xs i x e = (i, slice_get_within xs i x e, get_or_from_slice_get xs i x x e)

none_in : {A : Type 0} (x : A) → Contains {X = A} [] x → ⊥
none_in x c = let l = c.1 in omega arith

-- one more switch, at the next place
pub lead_push : (ss : List Switch) (s : Switch) (tables : List (List ℕ)) → LeadAmong (map switch_targets ss) tables → ((l : ℕ) → Contains (switch_targets s) l → Contains (get_or tables (length ss) []) l) → LeadAmong (map switch_targets (ss ++ s ∷ [])) tables
lead_push ss s tables among new w l has =
    let many : length (map switch_targets ss) ≡ length ss = length-map ss switch_targets in
    let there : Contains (get_or (map switch_targets ss ++ switch_targets s ∷ []) w []) l = subst (λ (ts : List (List ℕ)). Contains (get_or ts w []) l) (map-append switch_targets ss (s ∷ [])) has in
    elim (cases_lt w (length ss)) [
      | inl below ↦ among w l (subst (λ (t : List ℕ). Contains t l) (get_or_append_left (map switch_targets ss) (switch_targets s ∷ []) [] w (omega arith)) there)
      | inr above ↦
          let here : Contains (get_or (switch_targets s ∷ []) (w - length ss) []) l = subst (λ (t : List ℕ). Contains t l) (get_or-append_right (map switch_targets ss) (switch_targets s ∷ []) (length ss) w [] many above) there in
          elim (cases_lt (length ss) w) [
            | inl past ↦ absurd (none_in l (subst (λ (t : List ℕ). Contains t l) (get_or_past (switch_targets s ∷ []) (w - length ss) [] (omega arith)) here))
            | inr not ↦
                let at : w ≡ length ss = omega arith in
                let zero_at : w - length ss ≡ 0 = omega arith in
                subst (λ (n : ℕ). Contains (get_or tables n []) l) (sym at) (new l (subst (λ (n : ℕ). Contains (get_or (switch_targets s ∷ []) n []) l) zero_at here))
          ]
    ]

-- the targets at the place of a table
pub targets_at : (ts : List TableTargets) (i : ℕ) (t : TableTargets) → i < length ts → t ≡ get_or ts i t → get_or (map targets_of ts) i [] ≡ targets_of t
targets_at ts i t within is =
    get_or_default (map targets_of ts) i [] (targets_of t) (subst (λ (n : ℕ). i < n) (sym (length-map ts targets_of)) within)
    ∙ (get_or-map targets_of ts i t ∙ ap targets_of (sym is))

-- the parts of a switch
pub parts_lead : (targets : List ℕ) (cs : List Case) (rs : List SwitchRange) (d : ℕ) → All (λ (v : ℕ × ℕ). Contains targets v.0) (map (λ (c : Case). c.1) cs) → All (λ (r : SwitchRange). Contains targets r.target) rs → Contains targets d → (l : ℕ) → Contains (arm_targets (record { cases = Some cs; ranges = rs; otherwise = d })) l → Contains targets l
parts_lead targets cs rs d first second last l has =
    let P : ℕ → Type 0 = λ (n : ℕ). Contains targets n in
    let case_target : Case → ℕ = λ (c : Case). c.1.0 in
    let range_target : SwitchRange → ℕ = λ (r : SwitchRange). r.target in
    elim (Contains-push_cases (map case_target cs ++ map range_target rs) d l has) [
      | inr e ↦ subst P e last
      | inl front ↦ elim (Contains-append_cases (map case_target cs) (map range_target rs) l front) [
        | inl case ↦ All-contains P (map case_target cs) l (All-map P case_target cs (All-before_map (λ (v : ℕ × ℕ). Contains targets v.0) (λ (c : Case). c.1) cs first)) case
        | inr range ↦ All-contains P (map range_target rs) l (All-map P range_target rs second) range
      ]
    ]
