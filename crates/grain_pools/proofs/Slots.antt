-- The slots of the positions that steps carry.
use Rattle.std.proofs.Common.{◌≡◌, ◌+◌, ◌-◌, ◌<◌, ◌≤◌, ℕ, zero, suc, List, [], ◌∷◌, ◌++◌, get_or, length, slice_set, sum_by, take, drop, Some, refl, sym, ap, ◌∙◌, arith, length-append, zero-add}
use Rattle.std.proofs.lemmas.Bool.Decides.{nat_tests}
use Rattle.std.proofs.lemmas.List.{set-append_left, set-append_right, take-append-drop}
use Rattle.std.proofs.lemmas.List.Concat.{flat_map-append, length-flat_map}
use Rattle.std.proofs.lemmas.List.Folds.{length-flat_map-take}
use Rattle.std.specs.List.{flat_map}
use Rattle.grain_pools.specs.declared.chain.Chain.{Chain}
use Rattle.grain_pools.specs.declared.chain.Step.{Step}
use Rattle.grain_pools.specs.declared.chain.Step.TheVariants.{Index, Property, Method}
use Rattle.grain_pools.specs.Chain.{positions, root_positions, step_positions, step_slot, steps_positions}

-- one element written over in one of the lists that are joined
pub flat_map-set : {X A : Type 0} (f : X → List A) (xs : List X) (i : ℕ) (y d : X) (k : ℕ) (a : A) → i < length xs → k < length (f (get_or xs i d)) → f y ≡ slice_set (f (get_or xs i d)) k a
    → flat_map f (slice_set xs i y) ≡ slice_set (flat_map f xs) (length (flat_map f (take i xs)) + k) a
flat_map-set f [] i y d k a h l e = absurd (omega arith)
flat_map-set f (x ∷ xs) zero y d k a h l e =
    rw zero-add (ap (λ ys. ys ++ flat_map f xs) e ∙ sym (set-append_left (f x) (flat_map f xs) k a l))
flat_map-set f (x ∷ xs) (suc i) y d k a h l e =
    let before = flat_map f (take i xs) in
    let at = length (f x ++ before) + k in
    let long : at ≡ length (f x) + (length before + k) = omega (arith, length-append (f x) before) in
    let rest : at - length (f x) ≡ length before + k = omega (arith, long) in
    ap (λ ys. f x ++ ys) (flat_map-set f xs i y d k a (omega arith) l e)
    ∙ sym (set-append_right (f x) (flat_map f xs) (length (f x)) at a refl (omega (arith, long)) ∙ ap (λ m. f x ++ slice_set (flat_map f xs) m a) rest)

pub slots_are_sum : (steps : List Step) → sum_by (λ s. length (step_positions s)) steps ≡ length (steps_positions steps)
slots_are_sum steps = sym (length-flat_map step_positions steps)

-- the slots of the root and of the steps
pub chain_slots : (c : Chain) → length (positions c) ≡ length (root_positions c.root) + sum_by (λ s. length (step_positions s)) c.steps.items
chain_slots c = length-append (root_positions c.root) (steps_positions c.steps.items) ∙ ap (λ n. length (root_positions c.root) + n) (sym (slots_are_sum c.steps.items))

-- the slots before a step
pub front_slots : (c : Chain) (i : ℕ) → length (root_positions c.root) + sum_by (λ s. length (step_positions s)) (take i c.steps.items) ≤ length (positions c)
front_slots c i =
    let cut : steps_positions c.steps.items ≡ steps_positions (take i c.steps.items) ++ steps_positions (drop i c.steps.items) =
    ap steps_positions (sym (take-append-drop i c.steps.items)) ∙ flat_map-append step_positions (take i c.steps.items) (drop i c.steps.items) in
    omega (
      arith,
      length-append (root_positions c.root) (steps_positions c.steps.items),
      ap length cut,
      length-append (steps_positions (take i c.steps.items))
          (steps_positions (drop i c.steps.items)),
      slots_are_sum (take i c.steps.items),
    )

-- the slots before a step and its own
pub more_slots : (c : Chain) (i : ℕ) (d : Step) → i < length c.steps.items
    → length (root_positions c.root) + length (steps_positions (take i c.steps.items)) + length (step_positions (get_or c.steps.items i d)) ≤ length (positions c)
more_slots c i d h = omega (arith, length-append (root_positions c.root) (steps_positions c.steps.items), length-flat_map-take step_positions c.steps.items i d h)

-- a step carries a position, so that its first slot is one of the chain's
carries_one : (s : Step) → 0 < length (step_positions s)
carries_one (Index operand flags pos bracket) = omega arith
carries_one (Property name getter setter flags pos) = omega arith
carries_one (Method name argc operand flags pos) = omega arith

pub slot_inside : (c : Chain) (i : ℕ) → i < length c.steps.items → length (root_positions c.root) + sum_by (λ s. length (step_positions s)) (take i c.steps.items) < length (positions c)
slot_inside c i h = beside c.steps.items h where
  beside : (steps : List Step) → i < length steps → length (root_positions c.root) + sum_by (λ s. length (step_positions s)) (take i c.steps.items) < length (positions c)
  beside [] k = absurd (omega arith)
  beside (d ∷ steps) k = omega (arith, more_slots c i d h, carries_one (get_or c.steps.items i d), slots_are_sum (take i c.steps.items))

pub step_slot_is : (c : Chain) (i : ℕ) → i < length c.steps.items → step_slot c i ≡ Some (length (root_positions c.root) + sum_by (λ s. length (step_positions s)) (take i c.steps.items))
step_slot_is c i h = rw (slots_are_sum (take i c.steps.items)) (grind (arith, nat_tests))
