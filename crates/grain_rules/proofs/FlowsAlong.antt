-- An operation that has the row of another, but leads to mapped targets, does the same.
use Rattle.std.proofs.Common.{◌≡◌, ℕ, ◌+◌, ◌-◌, ◌≤◌, inl, inr, List, [], ◌∷◌, length, map, refl, sym, ap, subst, ◌∙◌}
use Rattle.std.specs.List.{Contains}
use Rattle.std.proofs.Math.ListN.{get_or-map}
use Rattle.grain_code.specs.declared.op.Op.{Op}
use Rattle.grain_rules.specs.Counts.{Counts, last_base}
use Rattle.grain_rules.specs.Effects.{Meets, after_fall, after_jump, falls_through, handlers_needed, iterators_needed, operands_after, targets}
use Rattle.grain_rules.specs.Flow as flows
use Rattle.grain_rules.specs.Flow.{Flow}
use Rattle.grain_rules.specs.FlowFields.{fall_for, falls_for, handlers_for, iterators_for, jump_for, targets_for}
use Rattle.grain_rules.specs.Rows.{Row, caps_of, flow_of, is_quiet, needs, row, takes}
use Rattle.grain_rules.specs.Setting.{Setting, unset}
use Rattle.grain_rules.specs.Sinking.{ReachesUpTo, Stays, untouched}
use Rattle.grain_rules.proofs.Splits.{in_cons, in_head, in_nil, in_tail}

-- the same flow, its target mapped
abbrev pub flow_along : (ℕ → ℕ) → Flow → Flow
flow_along f flows.Falls = flows.Falls
flow_along f flows.Ends = flows.Ends
flow_along f (flows.Jumps t) = flows.Jumps (f t)
flow_along f (flows.Branches t) = flows.Branches (f t)
flow_along f (flows.Switches w) = flows.Switches w
flow_along f flows.BeginsIterator = flows.BeginsIterator
flow_along f (flows.AdvancesIterator t) = flows.AdvancesIterator (f t)
flow_along f flows.EndsIterator = flows.EndsIterator
flow_along f (flows.PushesHandler t) = flows.PushesHandler (f t)
flow_along f flows.PopsHandler = flows.PopsHandler

-- the other operation has the row of the first, its flow mapped
pub record IsAlong (f : ℕ → ℕ) (op other : Op) : Type 0 where
  pub row_is : (s : Setting) → row s other ≡ record (row s op) { flow = flow_along f (row s op).flow }

iterators_along : (f : ℕ → ℕ) (flow : Flow) → iterators_for (flow_along f flow) ≡ iterators_for flow
iterators_along f (flows.AdvancesIterator t) = refl
iterators_along f flow = refl

handlers_along : (f : ℕ → ℕ) (flow : Flow) → handlers_for (flow_along f flow) ≡ handlers_for flow
handlers_along f flows.PopsHandler = refl
handlers_along f flow = refl

falls_along : (f : ℕ → ℕ) (flow : Flow) → falls_for (flow_along f flow) ≡ falls_for flow
falls_along f flows.Falls = refl
falls_along f flow = refl

jump_along : (f : ℕ → ℕ) (flow : Flow) (left : ℕ) (c : Counts) → jump_for (flow_along f flow) left c ≡ jump_for flow left c
jump_along f flows.Falls left c = refl
jump_along f flow left c = refl

fall_along : (f : ℕ → ℕ) (flow : Flow) (left : ℕ) (c : Counts) → fall_for (flow_along f flow) left c ≡ fall_for flow left c
fall_along f flows.Falls left c = refl
fall_along f flow left c = refl

targets_along : (f : ℕ → ℕ) (switches : List (List ℕ)) (flow : Flow) → targets_for (map (map f) switches) (flow_along f flow) ≡ map f (targets_for switches flow)
targets_along f switches (flows.Switches w) = get_or-map (map f) switches w []
targets_along f switches flow = refl

module _ {f : ℕ → ℕ} {op other : Op} (along : IsAlong f op other) where
  flow_same : flow_of other ≡ flow_along f (flow_of op)
  flow_same = ap (λ (r : Row). r.flow) (along.row_is unset)

  iterators_same : iterators_needed other ≡ iterators_needed op
  iterators_same = ap iterators_for flow_same ∙ iterators_along f (flow_of op)

  handlers_same : handlers_needed other ≡ handlers_needed op
  handlers_same = ap handlers_for flow_same ∙ handlers_along f (flow_of op)

  quiet_same : is_quiet other ≡ is_quiet op
  quiet_same = ap (λ (r : Row). r.quiet) (along.row_is unset)

  pub falls_same : falls_through other ≡ falls_through op
  falls_same = ap falls_for flow_same ∙ falls_along f (flow_of op)

  pub targets_same : (switches : List (List ℕ)) → targets (map (map f) switches) other ≡ map f (targets switches op)
  targets_same switches = ap (targets_for (map (map f) switches)) flow_same ∙ targets_along f switches (flow_of op)

-- what meets the needs of one meets those of the other, and sinks as far
module _ (s : Setting) {f : ℕ → ℕ} {op other : Op} (along : IsAlong f op other) where
  pub caps_same : caps_of s other ≡ caps_of s op
  caps_same = ap (λ (r : Row). r.asks) (along.row_is s)

  needs_same : needs s other ≡ needs s op
  needs_same = ap (λ (r : Row). r.needs) (along.row_is s)

  takes_same : takes s other ≡ takes s op
  takes_same = ap (λ (r : Row). r.takes) (along.row_is s)

  after_same : (n : ℕ) → operands_after s other n ≡ operands_after s op n
  after_same n = ap (λ (r : Row). n - r.takes + r.gives) (along.row_is s)

  pub meets_there : (c : Counts) → Meets s op c → Meets s other c
  meets_there c h = record {
    operands = subst (λ n. n ≤ c.operands) (sym needs_same) h.operands;
    iterators = subst (λ n. n ≤ c.iterators) (sym (iterators_same along)) h.iterators;
    handlers = subst (λ n. n ≤ length c.bases) (sym (handlers_same along)) h.handlers;
  }

  pub meets_here : (c : Counts) → Meets s other c → Meets s op c
  meets_here c h = record {
    operands = subst (λ n. n ≤ c.operands) needs_same h.operands;
    iterators = subst (λ n. n ≤ c.iterators) (iterators_same along) h.iterators;
    handlers = subst (λ n. n ≤ length c.bases) (handlers_same along) h.handlers;
  }

  untouched_same : (c : Counts) → untouched s other c ≡ untouched s op c
  untouched_same c = λ i. record { operands = c.operands - takes_same i; iterators = c.iterators - iterators_same along i }

  pub stays_there : (c : Counts) → Stays s op c → Stays s other c
  stays_there c h = λ loud. subst (ReachesUpTo (last_base c.bases)) (sym (untouched_same c)) (h (sym (quiet_same along) ∙ loud))

  pub stays_here : (c : Counts) → Stays s other c → Stays s op c
  stays_here c h = λ loud. subst (ReachesUpTo (last_base c.bases)) (untouched_same c) (h (quiet_same along ∙ loud))

  pub jump_same : (c : Counts) → after_jump s other c ≡ after_jump s op c
  jump_same c =
      ap (λ (g : Flow). jump_for g (operands_after s other c.operands) c) (flow_same along)
      ∙ (jump_along f (flow_of op) (operands_after s other c.operands) c
      ∙ ap (λ n. jump_for (flow_of op) n c) (after_same c.operands))

  pub fall_same : (c : Counts) → after_fall s other c ≡ after_fall s op c
  fall_same c =
      ap (λ (g : Flow). fall_for g (operands_after s other c.operands) c) (flow_same along)
      ∙ (fall_along f (flow_of op) (operands_after s other c.operands) c
      ∙ ap (λ n. fall_for (flow_of op) n c) (after_same c.operands))

from_mapped : (f : ℕ → ℕ) (xs : List ℕ) (b : ℕ) → Contains (map f xs) b → (t : ℕ) × Contains xs t × (f t ≡ b)
from_mapped f [] b c = absurd (in_nil b c)
from_mapped f (x ∷ xs) b c =
    elim (in_cons (f x) (map f xs) b c) [
      | inl e ↦ (x, in_head x xs, e)
      | inr k ↦ let h = from_mapped f xs b k in (h.0, in_tail x xs h.0 h.1, h.2)
    ]

-- a target of the other operation is that of a target of the first
pub target_from : {f : ℕ → ℕ} {op other : Op} → IsAlong f op other → (switches : List (List ℕ)) (b : ℕ) → Contains (targets (map (map f) switches) other) b → (t : ℕ) × Contains (targets switches op) t × (f t ≡ b)
target_from {f} {op} along switches b c = from_mapped f (targets switches op) b (subst (λ (xs : List ℕ). Contains xs b) (targets_same along switches) c)
