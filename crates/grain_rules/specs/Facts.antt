-- What pools say of what code names.
use Rattle.std.specs.Prelude.{ℕ, ◌+◌, ◌-◌, nat_lt, cond, List, [], ◌∷◌, ◌++◌, map}
use Rattle.std.specs.List.{flat_map}
use Rattle.std.specs.Option.{option_to_list}
use Rattle.grain_code.specs.declared.field.Pool.{Pool}
use Rattle.grain_code.specs.declared.field.Pool.TheVariants.{Names, OpAssignments}
use Rattle.grain_pools.specs.Chain.{consumed}
use Rattle.grain_pools.specs.Dispatch.{Case, listed, arms}
use Rattle.grain_pools.specs.declared.chain.Chain.{Chain}
use Rattle.grain_pools.specs.declared.chain.Root.{Root}
use Rattle.grain_pools.specs.declared.chain.Root.TheVariants as roots
use Rattle.grain_pools.specs.declared.chain.Step.{Step}
use Rattle.grain_pools.specs.declared.chain.Step.TheVariants as steps
use Rattle.grain_pools.specs.declared.chain.Tail.{Tail}
use Rattle.grain_pools.specs.declared.chain.Tail.TheVariants as tails
use Rattle.grain_pools.specs.declared.switch.Switch.{Switch}
use Rattle.grain_rules.specs.Capabilities.{chain_caps, name_caps}
use Rattle.grain_rules.specs.declared.pools.Pools.{Pools}

-- what an operation or a chain names: an entry of a pool, or a place among this many operands
pub data Mention : Type 0 where
  Entry : (pool : Pool) (index : ℕ) → Mention
  Operand : (operands : ℕ) (place : ℕ) → Mention

-- of a chain: how many operands it takes, the capabilities that it requires, and what it names, in the order of the tests
pub record ChainFacts : Type 0 where
  pub takes : ℕ
  pub asks : ℕ
  pub mentions : List Mention

-- How many entries there are, or what is looked at of each: of a name the capabilities that it requires, of a switch the constant of
-- each case.
pub record Facts : Type 0 where
  pub consts : ℕ
  pub names : List ℕ
  pub tokens : ℕ
  pub assign_ops : ℕ
  pub residuals : ℕ
  pub chains : List ChainFacts
  pub cases : List (List ℕ)

abbrev pub root_mentions : Root → List Mention
root_mentions (roots.Local slot n) = Entry Names n ∷ []
root_mentions (roots.Named n pos) = Entry Names n ∷ []
root_mentions (roots.This pos) = []
root_mentions roots.Temporary = []

-- in a chain with this many operands; of a step that takes several the last
abbrev pub step_mentions : ℕ → Step → List Mention
step_mentions operands (steps.Index operand flags pos bracket) = Operand operands operand ∷ []
step_mentions operands (steps.Property n getter setter flags pos) = Entry Names n ∷ Entry Names getter ∷ Entry Names setter ∷ []
step_mentions operands (steps.Method n argc operand flags pos) = Entry Names n ∷ cond (nat_lt 0 argc) (Operand operands (operand + argc - 1) ∷ []) []

abbrev pub tail_mentions : Tail → List Mention
tail_mentions tails.Read = []
tail_mentions (tails.Assign op) = map (Entry OpAssignments) (option_to_list op)

abbrev pub chain_facts : Chain → ChainFacts
chain_facts c = record {
  takes = consumed c;
  asks = chain_caps c;
  mentions = root_mentions c.root ++ flat_map (step_mentions c.operands) c.steps.items ++ tail_mentions c.tail;
}

-- the constant of each case
abbrev pub case_consts : Switch → List ℕ
case_consts s = map (λ (c : Case). c.1.1) (listed (arms s).cases)

-- with this many entries, and these names, chains and switches
abbrev pub facts_with : (consts : ℕ) (names : List (List ℕ)) (tokens assign_ops residuals : ℕ) → List Chain → List Switch → Facts
facts_with consts names tokens assign_ops residuals chains switches = record {
  consts = consts;
  names = map name_caps names;
  tokens = tokens;
  assign_ops = assign_ops;
  residuals = residuals;
  chains = map chain_facts chains;
  cases = map case_consts switches;
}

abbrev pub facts_of : Pools → Facts
facts_of pools = facts_with pools.consts pools.names.now pools.tokens pools.assign_ops pools.residuals pools.chains.now pools.switches.now
