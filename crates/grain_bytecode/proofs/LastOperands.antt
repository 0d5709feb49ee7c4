-- The last operand of a step among those that it takes.
use Rattle.std.proofs.Common.{◌≡◌, ℕ, ◌+◌, ◌-◌, ◌<◌, ◌≤◌, Bool, true, false, cond, nat_lt, Some, None, refl, arith}
use Rattle.std.proofs.lemmas.Bool.Decides.{nat_tests}
use Rattle.grain_pools.specs.Chain.{TakesOperand, last_operand}
use Rattle.grain_pools.specs.declared.chain.Step.{Step}
use Rattle.grain_pools.specs.declared.chain.Step.TheVariants.{Index, Property, Method}

-- a method with arguments takes the last one, and none behind it
last_argument : (argc operand last : ℕ) → cond (nat_lt 0 argc) (Some (operand + argc - 1)) None ≡ Some last
    → (operand ≤ last) × (last < operand + argc) × ((place : ℕ) → (operand ≤ place) × (place < operand + argc) → place ≤ last)
last_argument argc operand last e = at (nat_lt 0 argc) refl e
  where
    at : (some : Bool) → nat_lt 0 argc ≡ some → cond some (Some (operand + argc - 1)) None ≡ Some last
        → (operand ≤ last) × (last < operand + argc) × ((place : ℕ) → (operand ≤ place) × (place < operand + argc) → place ≤ last)
    at true test is =
        let same : operand + argc - 1 ≡ last = cc in
        let some : 0 < argc = grind (arith, nat_tests) in
        (omega arith, omega arith, λ place taken. omega arith)
    at false test is = absurd (cc)

-- and one without arguments takes none
no_argument : (argc operand place : ℕ) → cond (nat_lt 0 argc) (Some (operand + argc - 1)) None ≡ None → operand ≤ place → place < operand + argc → ⊥
no_argument argc operand place e low high = at (nat_lt 0 argc) refl e
  where
    at : (some : Bool) → nat_lt 0 argc ≡ some → cond some (Some (operand + argc - 1)) None ≡ None → ⊥
    at true test is = absurd (cc)
    at false test is =
        let none : argc ≤ 0 = grind (arith, nat_tests) in
        omega arith

pub taken_last : (step : Step) (last : ℕ) → last_operand step ≡ Some last → TakesOperand step last × ((place : ℕ) → TakesOperand step place → place ≤ last)
taken_last (Index operand flags pos bracket) last e =
    let same : operand ≡ last = cc in
    (cc, λ place taken. omega arith)
taken_last (Property name getter setter flags pos) last e = absurd (cc)
taken_last (Method name argc operand flags pos) last e =
    let h = last_argument argc operand last e in
    ((h.0, h.1), h.2)

pub taken_none : (step : Step) → last_operand step ≡ None → (place : ℕ) → TakesOperand step place → ⊥
taken_none (Index operand flags pos bracket) e place taken = absurd (cc)
taken_none (Property name getter setter flags pos) e place taken = taken
taken_none (Method name argc operand flags pos) e place taken = no_argument argc operand place e taken.0 taken.1
