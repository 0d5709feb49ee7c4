-- The flat form of pools, and what it stands for.
use Rattle.std.specs.Prelude.{◌≡◌, ℕ, List, [], map, length, sum_by, Option, Some, None}
use Rattle.std.specs.List.{All, AllZip, flat_map}
use Rattle.std.specs.List.Sorted.{IsPermutation}
use Rattle.grain_rules.specs.Accepted.{Input}
use Rattle.grain_rules.specs.Capabilities.{name_caps}
use Rattle.grain_rules.specs.Code.{Bytecode, bytecode_beside}
use Rattle.grain_rules.specs.Facts.{chain_facts}
use Rattle.grain_rules.specs.ConstCaps.{const_caps}
use Rattle.grain_code.specs.Span.{Span}
use Rattle.grain_base.specs.declared.value.Dynamic.{Dynamic}
use Rattle.grain_code.specs.declared.function.Function.{Function}
use Rattle.grain_pools.specs.Dispatch.{Arms, Case, listed, arm_targets}
use Rattle.grain_pools.specs.Names.{first_flaw, names_in}
use Rattle.grain_pools.specs.declared.chain.Chain.{Chain}
use Rattle.grain_pools.specs.declared.chain.Root.{Root}
use Rattle.grain_pools.specs.declared.chain.Root.TheVariants as roots
use Rattle.grain_pools.specs.declared.chain.Step.{Step}
use Rattle.grain_pools.specs.declared.chain.Step.TheVariants as steps
use Rattle.grain_pools.specs.declared.chain.Tail.{Tail}
use Rattle.grain_pools.specs.declared.chain.Tail.TheVariants as tails
use Rattle.grain_flat.specs.declared.records.CCase.{CCase}
use Rattle.grain_flat.specs.declared.records.CChain.{CChain}
use Rattle.grain_flat.specs.declared.records.CConstant.{CConstant}
use Rattle.grain_flat.specs.declared.records.CPools.{CPools}
use Rattle.grain_flat.specs.declared.records.CStep.{CStep}
use Rattle.grain_flat.specs.declared.records.CSwitch.{CSwitch}
use Rattle.grain_flat.specs.declared.shapes.TheConstants.{LOCAL, NAMED, THIS, TEMPORARY, INDEX, PROPERTY, METHOD, READ, ASSIGN, ASSIGN_THROUGH}

-- what a constant asks, or that it can't be said
abbrev pub asked_row : Option ℕ → CConstant
asked_row None = record { is_known = 0; caps = 0 }
asked_row (Some caps) = record { is_known = 1; caps = caps }

-- a root as its kind, its name and its slot
abbrev pub root_row : Root → ℕ × ℕ × ℕ
root_row (roots.Local slot name) = (LOCAL, name, slot)
root_row (roots.Named name pos) = (NAMED, name, 0)
root_row (roots.This pos) = (THIS, 0, 0)
root_row roots.Temporary = (TEMPORARY, 0, 0)

abbrev pub step_row : Step → CStep
step_row (steps.Index operand flags pos bracket) = record { kind = INDEX; name = 0; getter = 0; setter = 0; operand = operand; argc = 0 }
step_row (steps.Property name getter setter flags pos) = record { kind = PROPERTY; name = name; getter = getter; setter = setter; operand = 0; argc = 0 }
step_row (steps.Method name argc operand flags pos) = record { kind = METHOD; name = name; getter = 0; setter = 0; operand = operand; argc = argc }

-- a tail as its kind and its op-assignment
abbrev pub tail_row : Tail → ℕ × ℕ
tail_row tails.Read = (READ, 0)
tail_row (tails.Assign None) = (ASSIGN, 0)
tail_row (tails.Assign (Some op)) = (ASSIGN_THROUGH, op)

abbrev pub step_rows : Chain → List CStep
step_rows c = map step_row c.steps.items

abbrev pub chain_row : Chain → CChain
chain_row c = record {
  root = (root_row c.root).0;
  root_name = (root_row c.root).1;
  steps = length c.steps.items;
  tail = (tail_row c.tail).0;
  op = (tail_row c.tail).1;
  operands = c.operands;
  slot = (root_row c.root).2;
}

-- these rows, and these steps of all of them, are those of these chains
pub record AreChains (rows : List CChain) (given : List CStep) (chains : List Chain) : Type 0 where
  pub rows_are : rows ≡ map chain_row chains
  pub steps_are : given ≡ flat_map step_rows chains

abbrev pub case_row : Case → CCase
case_row c = record { target = c.1.0; constant = c.1.1 }

abbrev pub case_rows : Arms → List CCase
case_rows t = map case_row (listed t.cases)

-- the constant of each case
abbrev pub arm_constants : Arms → List ℕ
arm_constants t = map (λ (c : Case). c.1.1) (listed t.cases)

abbrev pub arm_range_targets : Arms → List ℕ
arm_range_targets t = map (λ r. r.target) t.ranges

abbrev pub switch_row : Arms → CSwitch
switch_row t = record { cases = length (case_rows t); ranges = length (arm_range_targets t); otherwise = t.otherwise }

-- these rows, and these cases and targets of ranges of all of them, are those of these switches, the cases of each in
-- some order
pub record AreSwitches (rows : List CSwitch) (cases : List CCase) (ranges : List ℕ) (switches : List Arms) : Type 0 where
  pub rows_are : rows ≡ map switch_row switches
  pub pieces : List (List CCase)
  pub cases_are : cases ≡ flat_map (λ piece. piece) pieces
  pub each : AllZip (λ piece t. IsPermutation piece (case_rows t)) pieces switches
  pub ranges_are : ranges ≡ flat_map arm_range_targets switches

-- pools with this flat form, and what constants of this flat form ask
pub record Pooled (p : CPools) : Type 0 where
  pub asked : List (Option ℕ)
  pub chains : List Chain
  pub switches : List Arms
  pub asked_are : p.constants.now ≡ map asked_row asked
  pub names_are : first_flaw p.names.now p.starts.now ≡ None
  pub chains_are : AreChains p.chains.now p.steps.now chains
  pub switches_are : AreSwitches p.switches.now p.cases.now p.ranges.now switches

-- something is asked by this row
pub record IsAskedRow (row : CConstant) : Type 0 where
  pub asked : Option ℕ
  pub is : asked_row asked ≡ row

-- some chain has this row
pub record IsChainRow (row : CChain) : Type 0 where
  pub root : Root
  pub tail : Tail
  pub root_is : root_row root ≡ (row.root, row.root_name, row.slot)
  pub tail_is : tail_row tail ≡ (row.tail, row.op)

-- some step has this row
pub record IsStepRow (row : CStep) : Type 0 where
  pub step : Step
  pub is : step_row step ≡ row

-- Each kind is known, and what a kind doesn't use is 0; the names are cut; and the counts add up to what is there.
pub record IsFlat (p : CPools) : Type 0 where
  pub constants : All IsAskedRow p.constants.now
  pub names : first_flaw p.names.now p.starts.now ≡ None
  pub chains : All IsChainRow p.chains.now
  pub steps : All IsStepRow p.steps.now
  pub step_counts : sum_by (λ c. c.steps) p.chains.now ≡ length p.steps.now
  pub case_counts : sum_by (λ s. s.cases) p.switches.now ≡ length p.cases.now
  pub range_counts : sum_by (λ s. s.ranges) p.switches.now ≡ length p.ranges.now

-- the code with chains and switches beside it
abbrev pub code_with : ℕ → List ℕ → CPools → List Chain → List Arms → Bytecode
code_with caps bytes p chains switches =
    bytecode_beside caps (record {
      consts = length p.constants.now;
      names = map name_caps (names_in p.names.now p.starts.now);
      tokens = p.operators;
      assign_ops = p.op_assignments;
      residuals = p.fragments;
      chains = map chain_facts chains;
      cases = map arm_constants switches;
    }) (map arm_targets switches) bytes

-- functions and pools with this flat form, constants aside
pub record Rest (p : CPools) : Type 0 where
  pub pooled : Pooled p
  pub functions : List Function
  pub functions_are : length functions ≡ p.functions

-- what is verified, if these are beside the code and its chunks
abbrev pub rest_input : ℕ → List ℕ → List Span → (p : CPools) → Rest p → Input
rest_input caps bytes chunks p rest = record {
  code = code_with caps bytes p rest.pooled.chains rest.pooled.switches;
  consts = [];
  functions = rest.functions;
  chunks = chunks;
}

-- the same with constants that ask what their rows say
pub record Whole (p : CPools) : Type 0 where
  pub rest : Rest p
  pub consts : List Dynamic
  pub asked_are : map const_caps consts ≡ rest.pooled.asked

-- what is verified, if these are beside the code and its chunks
abbrev pub flat_input : ℕ → List ℕ → List Span → (p : CPools) → Whole p → Input
flat_input caps bytes chunks p whole = record (rest_input caps bytes chunks p whole.rest) { consts = whole.consts }
