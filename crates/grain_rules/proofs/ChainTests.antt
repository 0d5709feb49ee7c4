-- What the tests of an operation say once they are passed: of its fields, and of the operands that the steps of its chain take.
use Rattle.std.proofs.Common.{◌≡◌, ℕ, ◌+◌, ◌-◌, ◌<◌, ◌≤◌, nat_lt, Bool, true, false, cond, zero, suc, inl, inr, List, [], ◌∷◌, ◌++◌, map, get_or, Option, Some, refl, sym, ap, subst, ◌∙◌, arith}
use Rattle.std.specs.List.{All, AllByRecursion, Contains, flat_map, slice_get}
use Rattle.std.specs.Option.{unwrap_or}
use Rattle.std.proofs.lemmas.Bool.Decides.{nat_tests}
use Rattle.std.proofs.lemmas.List.Elements.{All-contains}
use Rattle.grain_pools.specs.Chain.{TakesOperand}
use Rattle.grain_code.specs.Split.{AreInstructions}
use Rattle.grain_pools.specs.declared.chain.Chain.{Chain}
use Rattle.grain_pools.specs.declared.chain.Step.{Step}
use Rattle.grain_pools.specs.declared.chain.Step.TheVariants as steps
use Rattle.grain_code.specs.declared.op.Op.{Op}
use Rattle.grain_code.specs.declared.op.Op.TheVariants as ops
use Rattle.grain_code.proofs.Instructions.{begins_none_nil}
use Rattle.grain_code.proofs.Splits.{one_front}
use Rattle.grain_rules.specs.Accepted.{Input, IsAccepted}
use Rattle.grain_rules.specs.Facts.{ChainFacts, Mention, Entry, Operand, chain_facts, root_mentions, step_mentions, tail_mentions}
use Rattle.grain_rules.specs.Indices.{Indexed, IsBounded, IsPassed, IsWithinPools, mentions_of, test_of}
use Rattle.grain_rules.specs.Setting.{Setting}
use Rattle.grain_rules.proofs.Splits.{in_cons, in_nil}

module _ {X : Type 0} (P : X → Type 0) where
  pub each_front : (xs ys : List X) → AllByRecursion P (xs ++ ys) → AllByRecursion P xs
  each_front [] ys h = tt
  each_front (x ∷ xs) ys h = (h.0, each_front xs ys h.1)

  pub each_back : (xs ys : List X) → AllByRecursion P (xs ++ ys) → AllByRecursion P ys
  each_back [] ys h = h
  each_back (x ∷ xs) ys h = each_back xs ys h.1

module _ (s : Setting) where
  -- the test of what is named is passed
  abbrev Passes : Mention → Type 0
  Passes m = IsPassed (test_of s m)

  each_passes : (all : List Mention) → AllByRecursion IsPassed (map (test_of s) all) → AllByRecursion Passes all
  each_passes [] h = tt
  each_passes (m ∷ all) h = (h.0, each_passes all h.1)

  -- so an entry of a pool is in bounds
  each_bounded : (all : List Mention) → AllByRecursion Passes all → AllByRecursion (IsBounded s) all
  each_bounded [] h = tt
  each_bounded (Entry pool x ∷ all) h = (h.0, each_bounded all h.1)
  each_bounded (Operand operands place ∷ all) h = (tt, each_bounded all h.1)

  -- an operation whose indices are in bounds has those into pools below the sizes of these
  pub within_pools : (op : Op) → Indexed s op → IsWithinPools s op
  within_pools op h = record { entries = each_bounded (mentions_of s op) (each_passes (mentions_of s op) h.tests); cases = h.cases }

  -- a step takes operands of its chain alone
  step_within : (operands : ℕ) (step : Step) (place : ℕ) → AllByRecursion Passes (step_mentions operands step) → TakesOperand step place → place < operands
  step_within operands (steps.Index operand flags pos bracket) place h taken = let below : operand < operands = h.0 in omega (arith, below, taken)
  step_within operands (steps.Property n getter setter flags pos) place h taken = absurd taken
  step_within operands (steps.Method n argc operand flags pos) place h taken = last (nat_lt 0 argc) refl h.1
    where
      last : (some : Bool) → nat_lt 0 argc ≡ some → AllByRecursion Passes (cond some (Operand operands (operand + argc - 1) ∷ []) []) → place < operands
      last true is below = let least : operand + argc - 1 < operands = below.0 in omega (arith, least, taken.0, taken.1)
      last false is below = let none : argc ≤ 0 = grind (arith, nat_tests) in omega (arith, none, taken.0, taken.1)

  steps_within : (operands : ℕ) (all : List Step) (step : Step) (place : ℕ) → AllByRecursion Passes (flat_map (step_mentions operands) all) → Contains all step → TakesOperand step place → place < operands
  steps_within operands [] step place h among taken = absurd (in_nil step among)
  steps_within operands (first ∷ all) step place h among taken =
      let front = each_front Passes (step_mentions operands first) (flat_map (step_mentions operands) all) h in
      let back = each_back Passes (step_mentions operands first) (flat_map (step_mentions operands) all) h in
      elim (in_cons first all step among) [
        | inl same ↦ step_within operands step place (subst (λ (x : Step). AllByRecursion Passes (step_mentions operands x)) same front) taken
        | inr more ↦ steps_within operands all step place back more taken
      ]

-- what the chain at an index names
found_inside : (chains : List Chain) (x : ℕ) (c : Chain) → slice_get chains x ≡ Some c → get_or (map (λ (f : ChainFacts). f.mentions) (map chain_facts chains)) x [] ≡ (chain_facts c).mentions
found_inside [] x c found = absurd (cc)
found_inside (first ∷ chains) zero c found = ap (λ (o : Option Chain). (chain_facts (unwrap_or o c)).mentions) found
found_inside (first ∷ chains) (suc x) c found = found_inside chains x c found

-- so do the steps of a chain that an operation names whose indices are in bounds
operands_within : (s : Setting) (chains : List Chain) → s.facts.chains ≡ map chain_facts chains → (x : ℕ) (c : Chain) (step : Step) (place : ℕ) → Indexed s (ops.Chain x)
    → slice_get chains x ≡ Some c → Contains c.steps.items step → TakesOperand step place → place < c.operands
operands_within s chains same x c step place h found among taken =
    let inside : List ChainFacts → List Mention = λ all. get_or (map (λ (f : ChainFacts). f.mentions) all) x [] in
    let here = each_front (Passes s) (inside s.facts.chains) [] (each_passes s (mentions_of s (ops.Chain x)) h.tests).1 in
    let chain = subst (AllByRecursion (Passes s)) (ap inside same ∙ found_inside chains x c found) here in
    let root = root_mentions c.root in
    let middle = flat_map (step_mentions c.operands) c.steps.items in
    steps_within s c.operands c.steps.items step place (each_back (Passes s) root middle (each_front (Passes s) (root ++ middle) (tail_mentions c.tail) chain)) among taken

-- and of one that an instruction of an accepted program names
pub accepted_within : (i : Input) → IsAccepted i → (all : List Op) → AreInstructions i.code.bytes all → (x : ℕ) → Contains all (ops.Chain x) → (chains : List Chain)
    → i.code.setting.facts.chains ≡ map chain_facts chains → (c : Chain) → slice_get chains x ≡ Some c → (step : Step) → Contains c.steps.items step
    → (place : ℕ) → TakesOperand step place → place < c.operands
accepted_within i accepted all are x named chains these c found step among place taken =
    let code = accepted.code in
    let same = (one_front code.0 all [] [] code.1.each are.each begins_none_nil begins_none_nil (ap (λ (b : List ℕ). b ++ []) (sym code.1.whole ∙ are.whole))).0 in
    let indexed = subst (All (Indexed i.code.setting)) same code.2 in
    operands_within i.code.setting chains these x c step place (All-contains (Indexed i.code.setting) all (ops.Chain x) indexed named) found among taken
