-- What a program has, in flat form.
use Rattle.std.specs.Prelude.{◌≡◌, ℕ, Bool, true, false, List, [], ◌++◌, length, map}
use Rattle.std.specs.List.{concat, flat_map, list_all}
use Rattle.std.specs.Str.{is_utf8}
use Rattle.std.specs.Option.{is_some, unwrap_or}
use Rattle.grain.specs.Program.{Program, chunks_of}
use Rattle.grain.specs.Sidecars.{IsSidecar}
use Rattle.grain.specs.declared.sidecar.Sidecar.{Sidecar}
use Rattle.grain_base.specs.declared.access.FnAccess.{FnAccess}
use Rattle.grain_base.specs.declared.access.FnAccess.TheVariants as access
use Rattle.grain_base.specs.declared.value.Dynamic.{Dynamic}
use Rattle.grain_code.specs.declared.function.Function.{Function}
use Rattle.grain_format.specs.Form.{forms}
use Rattle.grain_file.specs.ProgramFile.{halves}
use Rattle.grain_flat.specs.Flat.{asked_row, case_rows, arm_range_targets, chain_row, step_rows, switch_row}
use Rattle.grain_flat.specs.RowFacts.{part_begins}
use Rattle.grain_flat.specs.declared.records.CCase.{CCase}
use Rattle.grain_flat.specs.declared.records.CChain.{CChain}
use Rattle.grain_flat.specs.declared.records.CConstant.{CConstant}
use Rattle.grain_flat.specs.declared.records.CSwitch.{CSwitch}
use Rattle.grain_flat_file.specs.Values.{AreConstantLists, AreOperatorLists, assigned_names}
use Rattle.grain_flat_file.specs.declared.begins.Begins.{Begins}
use Rattle.grain_flat_file.specs.declared.copies.Copies.{Copies}
use Rattle.grain_flat_file.specs.declared.copies.Numbers.{Numbers}
use Rattle.grain_flat_file.specs.declared.functions.FunctionLists.{FunctionLists}
use Rattle.grain_flat_file.specs.declared.pools.ChainLists.{ChainLists}
use Rattle.grain_flat_file.specs.declared.pools.SwitchLists.{SwitchLists}
use Rattle.grain_flat_file.specs.declared.records.CFunction.{CFunction}
use Rattle.grain_flat_file.specs.declared.records.CRange.{CRange}
use Rattle.grain_flat_file.specs.declared.records.TheConstants.{CONTENTS_SIZE}
use Rattle.grain_pools.specs.Dispatch.{arms}
use Rattle.grain_pools.specs.declared.chain.Chain.{Chain}
use Rattle.grain_pools.specs.declared.chain.Step.{Step}
use Rattle.grain_pools.specs.declared.chain.Step.TheVariants as steps
use Rattle.grain_pools.specs.declared.switch.Switch.{Switch}
use Rattle.grain_pools.specs.declared.switch.SwitchRange.{SwitchRange}
use Rattle.grain_rules.specs.ConstCaps.{const_caps}
use Rattle.grain_flat.specs.declared.records.CProgram.{CProgram}
use Rattle.grain_flat.specs.declared.records.CPools.{CPools}
use Rattle.grain_flat_file.specs.Values.{value_begins, value_rows, value_texts, placed_rows, operator_rows, operator_texts, assigned_rows, assigned_texts}
use Rattle.grain_base.specs.Tokens.{token_parts}
use Rattle.grain_flat_file.specs.declared.records.CContents.{CContents}
use Rattle.grain_flat_file.specs.declared.contents.Lists.{Lists}
use Rattle.grain_pools.specs.Names.{starts_of}

-- ---- what is taken as it is

pub record AreNumbers (p : Program) (n : Numbers) : Type 0 where
  pub caps_are : n.caps ≡ p.caps.0
  pub id_is : (n.id_low, n.id_high) ≡ halves p.debug_id
  pub has_source_is : n.has_source ≡ is_some p.source
  pub has_positions_is : n.has_positions ≡ is_some p.positions
  pub positions_are : n.positions ≡ length (unwrap_or p.positions [])
  pub operators_are : n.operators ≡ length p.tokens
  pub op_assignments_are : n.op_assignments ≡ length p.assign_ops
  pub fragments_are : n.fragments ≡ p.residuals
  pub functions_are : n.functions ≡ length p.functions

pub record AreCopies (p : Program) (copies : Copies) : Type 0 where
  pub code_is : copies.code.items ≡ p.code
  pub names_are : copies.names.items ≡ concat p.names
  pub texts : list_all is_utf8 p.names ≡ true
  pub starts_are : copies.starts.items ≡ starts_of 0 p.names
  pub source_is : copies.source.items ≡ unwrap_or p.source []

-- ---- functions

abbrev pub is_private : FnAccess → Bool
is_private access.Public = false
is_private access.Private = true

abbrev pub function_row : Function → CFunction
function_row f = record {
  name = f.name;
  parameters = length f.params.items;
  is_private = is_private f.access;
  is_typed = is_some f.this_type;
  this_type = unwrap_or f.this_type 0;
}

abbrev pub parameters_of : Function → List ℕ
parameters_of f = f.params.items

pub record AreFunctionLists (p : Program) (lists : FunctionLists) : Type 0 where
  pub chunks_are : lists.chunks.items ≡ chunks_of p
  pub rows_are : lists.rows.items ≡ map function_row p.functions
  pub parameters_are : lists.parameters.items ≡ flat_map parameters_of p.functions

-- ---- constants, chains and switches

unfoldable pub constant_row : Dynamic → CConstant
constant_row v = asked_row (const_caps v)

abbrev pub flags_of : Step → ℕ
flags_of (steps.Index operand flags pos bracket) = flags.0
flags_of (steps.Property name getter setter flags pos) = flags.0
flags_of (steps.Method name argc operand flags pos) = flags.0

abbrev pub step_flags : Chain → List ℕ
step_flags c = map flags_of c.steps.items

pub record AreChainLists (chains : List Chain) (lists : ChainLists) : Type 0 where
  pub rows_are : lists.rows.items ≡ map chain_row chains
  pub steps_are : lists.steps.items ≡ flat_map step_rows chains
  pub flags_are : lists.flags.items ≡ flat_map step_flags chains

abbrev pub range_row : SwitchRange → CRange
range_row r = record { from = r.from; to = r.to; is_inclusive = r.inclusive; target = r.target }

abbrev pub switch_cases : Switch → List CCase
switch_cases s = case_rows (arms s)

abbrev pub switch_targets_of : Switch → List ℕ
switch_targets_of s = arm_range_targets (arms s)

abbrev pub switch_ranges : Switch → List CRange
switch_ranges s = map range_row s.ranges.items

pub record AreSwitchLists (switches : List Switch) (lists : SwitchLists) : Type 0 where
  pub rows_are : lists.rows.items ≡ map (λ s. switch_row (arms s)) switches
  pub cases_are : lists.cases.items ≡ flat_map switch_cases switches
  pub targets_are : lists.targets.items ≡ flat_map switch_targets_of switches
  pub ranges_are : lists.ranges.items ≡ flat_map switch_ranges switches

-- ---- the index of the first item of each entry in the list of all items

-- of parts with these numbers of items
abbrev pub first_indices : List ℕ → List ℕ
first_indices counts = part_begins (λ (n : ℕ). n) 0 counts

-- the steps of each chain, the cases and the ranges of each switch, and the parameters of each function, by the counts that their rows have
pub record AreBegins (chains : List CChain) (switches : List CSwitch) (functions : List CFunction) (b : Begins) : Type 0 where
  pub chain_steps_are : b.chain_steps.items ≡ first_indices (map (λ (c : CChain). c.steps) chains)
  pub switch_cases_are : b.switch_cases.items ≡ first_indices (map (λ (s : CSwitch). s.cases) switches)
  pub switch_ranges_are : b.switch_ranges.items ≡ first_indices (map (λ (s : CSwitch). s.ranges) switches)
  pub function_parameters_are : b.function_parameters.items ≡ first_indices (map (λ (f : CFunction). f.parameters) functions)

-- ---- all of it

-- these numbers and lists are what the program has
pub record AreLists (p : Program) (lists : Lists) : Type 0 where
  pub numbers : AreNumbers p lists.numbers
  pub copies : AreCopies p lists.copies
  pub functions : AreFunctionLists p lists.functions
  pub asked : lists.asked.items ≡ map constant_row p.consts
  pub chains : AreChainLists p.chains lists.chains
  pub switches : AreSwitchLists p.switches lists.switches
  pub constants : AreConstantLists (forms p.consts) lists.constants
  pub operators : AreOperatorLists p.tokens p.assign_ops lists.operators
  pub assigned : lists.assigned.items ≡ map assigned_names p.assign_ops
  pub positions : IsSidecar p lists.positions
  pub begins : AreBegins lists.chains.rows.items lists.switches.rows.items lists.functions.rows.items lists.begins

-- the pools are the flat form of the program's
pub record ArePools (p : Program) (pools : CPools) : Type 0 where
  pub constants_are : pools.constants.now ≡ map constant_row p.consts
  pub names_are : pools.names.now ≡ concat p.names
  pub texts : list_all is_utf8 p.names ≡ true
  pub starts_are : pools.starts.now ≡ starts_of 0 p.names
  pub operators_are : pools.operators ≡ length p.tokens
  pub op_assignments_are : pools.op_assignments ≡ length p.assign_ops
  pub fragments_are : pools.fragments ≡ p.residuals
  pub functions_are : pools.functions ≡ length p.functions
  pub chains_are : pools.chains.now ≡ map chain_row p.chains
  pub steps_are : pools.steps.now ≡ flat_map step_rows p.chains
  pub switches_are : pools.switches.now ≡ map (λ s. switch_row (arms s)) p.switches
  pub cases_are : pools.cases.now ≡ flat_map switch_cases p.switches
  pub ranges_are : pools.ranges.now ≡ flat_map switch_targets_of p.switches

-- the code, the chunks and the pools are the program's
pub record IsFlatFormOf (p : Program) (c : CProgram) : Type 0 where
  pub code_is : c.code.now ≡ p.code
  pub chunks_are : c.chunks.now ≡ chunks_of p
  pub pools : ArePools p c.pools

-- this is all that the program has
pub record AreContents (p : Program) (c : CContents) : Type 0 where
  pub size_is : c.size ≡ CONTENTS_SIZE
  pub program : IsFlatFormOf p c.program
  pub caps_are : c.caps ≡ p.caps.0
  pub id_is : (c.id_low, c.id_high) ≡ halves p.debug_id
  pub has_source_is : c.has_source ≡ is_some p.source
  pub source_is : c.source.now ≡ unwrap_or p.source []
  pub functions_are : c.functions.now ≡ map function_row p.functions
  pub parameters_are : c.parameters.now ≡ flat_map parameters_of p.functions
  pub constants_are : c.constants.now ≡ value_begins 0 (forms p.consts)
  pub values_are : c.values.now ≡ placed_rows 0 (flat_map value_rows (forms p.consts))
  pub texts_are : c.texts.now ≡ flat_map value_texts (forms p.consts)
  pub operators_are : c.operators.now ≡ placed_rows 0 (flat_map (λ t. operator_rows (token_parts t)) p.tokens ++ flat_map assigned_rows p.assign_ops)
  pub operator_texts_are : c.operator_texts.now ≡ flat_map (λ t. operator_texts (token_parts t)) p.tokens ++ flat_map assigned_texts p.assign_ops
  pub op_assignments_are : c.op_assignments.now ≡ map assigned_names p.assign_ops
  pub step_flags_are : c.step_flags.now ≡ flat_map step_flags p.chains
  pub dispatch_is : c.ranges.now ≡ flat_map switch_ranges p.switches
  pub positions_are : c.positions ≡ length (unwrap_or p.positions [])
  pub has_positions_is : c.has_positions ≡ is_some p.positions
  pub sites : (s : Sidecar) × IsSidecar p s × (c.table.now ≡ s.positions.items) × (c.stream.now ≡ s.chains.items)
  pub chain_steps_are : c.chain_steps.now ≡ first_indices (map (λ (r : CChain). r.steps) c.program.pools.chains.now)
  pub switch_cases_are : c.switch_cases.now ≡ first_indices (map (λ (r : CSwitch). r.cases) c.program.pools.switches.now)
  pub switch_ranges_are : c.switch_ranges.now ≡ first_indices (map (λ (r : CSwitch). r.ranges) c.program.pools.switches.now)
  pub function_parameters_are : c.function_parameters.now ≡ first_indices (map (λ (r : CFunction). r.parameters) c.functions.now)
