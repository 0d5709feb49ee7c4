-- What is assembled stays sound: operations by how they are left.
use Rattle.std.proofs.Common.{◌≡◌, ℕ, ◌+◌, ◌-◌, ◌≤◌, ◌⊎◌, inl, inr, true, false, List, [], ◌∷◌, ◌++◌, length, Some, refl, sym, ap, subst, ◌∙◌, arith}
use Rattle.std.specs.Prelude.{slice_get}
use Rattle.std.specs.List.{Contains}
use Rattle.grain_code.specs.declared.op.Op.{Op}
use Rattle.grain_pools.specs.declared.chain.Chain.{Chain}
use Rattle.grain_rules.specs.Effects.{operands_after}
use Rattle.grain_rules.specs.Flow as flows
use Rattle.grain_rules.specs.Flow.{Flow}
use Rattle.grain_rules.specs.FlowFields.{fall_for, falls_for, handlers_for, iterators_for, jump_for, targets_for}
use Rattle.grain_rules.specs.Rows.{flow_of, gives, is_quiet, needs, takes}
use Rattle.grain_rules.specs.Setting.{Setting}
use Rattle.grain_rules.proofs.Splits.{in_cons, in_nil}
use Rattle.grain_builder.specs.Unfinished.{spot}
use Rattle.grain_builder.specs.Fitting.{FitsAt, HasChains, HasTables, spot_counts, spot_of}
use Rattle.grain_builder.specs.Sound.{IsWellMade, Workings}
use Rattle.grain_builder.proofs.Bases.{last_least}
use Rattle.grain_builder.proofs.Steps.{made_settled, put_falling, put_leaving}

-- all but the edges to labels
pub fits_by : (k : Workings) → IsWellMade k → (op : Op) (f : Flow) → flow_of op ≡ f
    → ((s : Setting) → HasChains s k.chains → needs s op ≤ k.operands)
    → iterators_for f ≤ k.level.iterators → handlers_for f ≤ length k.level.bases
    → (is_quiet op ≡ false → (s : Setting) → HasChains s k.chains → (k.level.floor + takes s op ≤ k.operands) × (k.level.least + iterators_for f ≤ k.level.iterators))
    → ((s : Setting) (all : List (List ℕ)) (l : ℕ) → HasChains s k.chains → HasTables all k.tables → Contains (targets_for all f) l → slice_get k.labels l ≡ Some (spot_of k.level.home (jump_for f (operands_after s op k.operands) (spot_counts (spot k.operands k.level)))))
    → FitsAt k.chains k.tables k.labels op (spot k.operands k.level)
fits_by k sound op f is enough iterators handlers stays jumps = record {
  shallow = sound.room;
  meets = λ s c. record {
    operands = enough s c;
    iterators = subst (λ (g : Flow). iterators_for g ≤ k.level.iterators) (sym is) iterators;
    handlers = subst (λ (g : Flow). handlers_for g ≤ length k.level.bases) (sym is) handlers;
  };
  stays = λ s c loud.
      let h = stays loud s c in
      let a = sound.base.operands in
      let b = last_least k.level.least k.level.bases sound.base.iterators in
      let h0 = h.0 in
      let h1 : k.level.least + iterators_for (flow_of op) ≤ k.level.iterators = subst (λ (g : Flow). k.level.least + iterators_for g ≤ k.level.iterators) (sym is) h.1 in
      record { operands = omega arith; iterators = omega arith };
  jumps = λ s all l c t has.
      subst (λ (g : Flow). slice_get k.labels l ≡ Some (spot_of k.level.home (jump_for g (operands_after s op k.operands) (spot_counts (spot k.operands k.level))))) (sym is)
      (jumps s all l c t (subst (λ (g : Flow). Contains (targets_for all g) l) is has));
}

pub only_one : (x y : ℕ) → Contains (x ∷ []) y → y ≡ x
only_one x y c = elim (in_cons x [] y c) [ inl e ↦ sym e | inr k ↦ absurd (in_nil y k) ]

-- what an operation does with operands, in each setting with these chains
pub record Does (chains : List Chain) (op : Op) (operands t g : ℕ) : Type 0 where
  pub needs_some : (s : Setting) → HasChains s chains → needs s op ≤ operands
  pub takes_some : (s : Setting) → HasChains s chains → takes s op ≡ t
  pub gives_some : (s : Setting) → HasChains s chains → gives s op ≡ g

pub after_is : (chains : List Chain) (op : Op) (n t g : ℕ) → Does chains op n t g → (s : Setting) → HasChains s chains → operands_after s op n ≡ n - t + g
after_is chains op n t g does s h = ap (λ x. n - x + gives s op) (does.takes_some s h) ∙ ap (λ x. n - t + x) (does.gives_some s h)

module _ (k : Workings) (s : IsWellMade k) (op : Op) (t g : ℕ) (does : Does k.chains op k.operands t g) where
  abbrev fixed_k : Workings
  fixed_k = record k { fixed = true }

  reaches : (n i : ℕ) → k.level.floor + t ≤ n → (set : Setting) → HasChains set k.chains → k.level.floor + takes set op ≤ n
  reaches n i h set c = subst (λ x. k.level.floor + x ≤ n) (sym (does.takes_some set c)) h

  -- it falls through
  pub put_plain : flow_of op ≡ flows.Falls → (k.level.floor + t ≤ k.operands) ⊎ (is_quiet op ≡ true) → k.operands - t + g ≤ 65535 → IsWellMade (record k { ops = k.ops ++ op ∷ []; operands = k.operands - t + g; fixed = true })
  put_plain is room few =
      let sound = made_settled k s in
      put_falling fixed_k sound refl op
      (fits_by fixed_k sound op flows.Falls is (does.needs_some) (omega arith) (omega arith)
      (λ loud set c. (elim room [ inl h ↦ reaches k.operands 0 h set c | inr q ↦ absurd (let e : true ≡ false = sym q ∙ loud in cc) ], let h = sound.base.there in omega arith))
      (λ set all l c h has. absurd (in_nil l has)))
      (k.operands - t + g) k.level refl few sound.base
      (λ set c. ap (λ (f : Flow). fall_for f (operands_after set op k.operands) (spot_counts (spot k.operands k.level))) is
      ∙ ap (λ x. spot_counts (spot x k.level)) (after_is k.chains op k.operands t g does set c))

  -- it ends the run
  pub put_end : flow_of op ≡ flows.Ends → (k.level.floor + t ≤ k.operands) ⊎ (is_quiet op ≡ true) → (n : ℕ) → n ≤ 65535 → IsWellMade (record k { ops = k.ops ++ op ∷ []; operands = n; fixed = false })
  put_end is room n few =
      let sound = made_settled k s in
      put_leaving fixed_k sound refl op
      (fits_by fixed_k sound op flows.Ends is (does.needs_some) (omega arith) (omega arith)
      (λ loud set c. (elim room [ inl h ↦ reaches k.operands 0 h set c | inr q ↦ absurd (let e : true ≡ false = sym q ∙ loud in cc) ], let h = sound.base.there in omega arith))
      (λ set all l c h has. absurd (in_nil l has)))
      n k.level refl few sound.base
      (ap falls_for is)

  -- it jumps to a label
  pub put_jump : (l : ℕ) → flow_of op ≡ flows.Jumps l → k.level.floor + t ≤ k.operands → slice_get k.labels l ≡ Some (spot (k.operands - t + g) k.level) → (n : ℕ) → n ≤ 65535 → IsWellMade (record k { ops = k.ops ++ op ∷ []; operands = n; fixed = false })
  put_jump l is room there n few =
      let sound = made_settled k s in
      put_leaving fixed_k sound refl op
      (fits_by fixed_k sound op (flows.Jumps l) is (does.needs_some) (omega arith) (omega arith)
      (λ loud set c. (reaches k.operands 0 room set c, let h = sound.base.there in omega arith))
      (λ set all m c h has.
      subst (λ x. slice_get k.labels x ≡ Some (spot (operands_after set op k.operands) k.level)) (sym (only_one l m has))
      (there ∙ ap (λ x. Some (spot x k.level)) (sym (after_is k.chains op k.operands t g does set c)))))
      n k.level refl few sound.base
      (ap falls_for is)

  -- it jumps to a label or falls through
  pub put_branch : (l : ℕ) → flow_of op ≡ flows.Branches l → k.level.floor + t ≤ k.operands → slice_get k.labels l ≡ Some (spot (k.operands - t + g) k.level) → k.operands - t + g ≤ 65535 → IsWellMade (record k { ops = k.ops ++ op ∷ []; operands = k.operands - t + g; fixed = true })
  put_branch l is room there few =
      let sound = made_settled k s in
      put_falling fixed_k sound refl op
      (fits_by fixed_k sound op (flows.Branches l) is (does.needs_some) (omega arith) (omega arith)
      (λ loud set c. (reaches k.operands 0 room set c, let h = sound.base.there in omega arith))
      (λ set all m c h has.
      subst (λ x. slice_get k.labels x ≡ Some (spot (operands_after set op k.operands) k.level)) (sym (only_one l m has))
      (there ∙ ap (λ x. Some (spot x k.level)) (sym (after_is k.chains op k.operands t g does set c)))))
      (k.operands - t + g) k.level refl few sound.base
      (λ set c. ap (λ (f : Flow). fall_for f (operands_after set op k.operands) (spot_counts (spot k.operands k.level))) is
      ∙ ap (λ x. spot_counts (spot x k.level)) (after_is k.chains op k.operands t g does set c))
