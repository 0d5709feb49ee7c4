-- What the rows of a flat form say of pools, where they stand.
use Rattle.std.specs.Prelude.{ℕ, ◌+◌, ◌-◌, ◌==◌, ◌||◌, nat_lt, not, cond, if◌then◌else◌, List, [], ◌∷◌, ◌++◌, map, take, drop, length, zip}
use Rattle.std.specs.List.{flat_map}
use Rattle.grain_base.specs.CapBits.{THIS, INDEXING, METHOD, PROPERTY}
use Rattle.grain_rules.specs.Capabilities.{joined, name_caps}
use Rattle.grain_rules.specs.Facts.{ChainFacts, Facts, Mention, Entry, Operand}
use Rattle.grain_pools.specs.Names.{names_in}
use Rattle.grain_code.specs.declared.field.Pool.TheVariants.{Names, OpAssignments}
use Rattle.grain_flat.specs.declared.records.CCase.{CCase}
use Rattle.grain_flat.specs.declared.records.CChain.{CChain}
use Rattle.grain_flat.specs.declared.records.CPools.{CPools}
use Rattle.grain_flat.specs.declared.records.CStep.{CStep}
use Rattle.grain_flat.specs.declared.records.CSwitch.{CSwitch}
use Rattle.grain_flat.specs.declared.shapes.TheConstants.{LOCAL, NAMED, TEMPORARY, INDEX, READ, ASSIGN_THROUGH}
use Rattle.grain_flat.specs.declared.shapes.TheConstants as shapes

-- a list in parts, one for each row, of as many as the row counts
abbrev pub parts : {R X : Type 0} → (R → ℕ) → List R → List X → List (List X)
parts count [] xs = []
parts count (row ∷ rows) xs = take (count row) xs ∷ parts count rows (drop (count row) xs)

-- where such parts begin, of which the first begins there
abbrev pub part_begins : {R : Type 0} → (R → ℕ) → ℕ → List R → List ℕ
part_begins count from [] = []
part_begins count from (row ∷ rows) = from ∷ part_begins count (from + count row) rows

-- what a root, a step and a tail name
abbrev pub root_by_row : CChain → List Mention
root_by_row row = if row.root == LOCAL || row.root == NAMED then Entry Names row.root_name ∷ [] else []

abbrev pub step_by_row : ℕ → CStep → List Mention
step_by_row operands row =
    if row.kind == INDEX then Operand operands row.operand ∷ []
    else if row.kind == shapes.PROPERTY then Entry Names row.name ∷ Entry Names row.getter ∷ Entry Names row.setter ∷ []
    else Entry Names row.name ∷ cond (nat_lt 0 row.argc) (Operand operands (row.operand + row.argc - 1) ∷ []) []

abbrev pub tail_by_row : CChain → List Mention
tail_by_row row = if row.tail == ASSIGN_THROUGH then Entry OpAssignments row.op ∷ [] else []

-- what they ask of the host
abbrev pub root_asked : CChain → ℕ
root_asked row = if row.root == shapes.THIS then THIS else 0

abbrev pub step_asked : CStep → ℕ
step_asked row = if row.kind == INDEX then INDEXING else if row.kind == shapes.PROPERTY then PROPERTY else METHOD

-- how many operands a chain takes
abbrev pub taken : CChain → ℕ
taken row = row.operands + cond (row.root == TEMPORARY) 1 0 + cond (not (row.tail == READ)) 1 0

-- a chain with this row and these steps
abbrev pub chain_by_rows : CChain → List CStep → ChainFacts
chain_by_rows row steps = record {
  takes = taken row;
  asks = joined (root_asked row) (map step_asked steps);
  mentions = root_by_row row ++ flat_map (step_by_row row.operands) steps ++ tail_by_row row;
}

-- the chains, each by its row and its part of the steps
abbrev pub chains_by_rows : List CChain → List CStep → List ChainFacts
chains_by_rows rows steps = map (λ (c : CChain × List CStep). chain_by_rows c.0 c.1) (zip rows (parts (λ (c : CChain). c.steps) rows steps))

-- of each switch the constants of its part of the cases
abbrev pub cases_by_rows : List CSwitch → List CCase → List (List ℕ)
cases_by_rows rows cases = map (map (λ (c : CCase). c.constant)) (parts (λ (s : CSwitch). s.cases) rows cases)

-- where a switch with this row, these cases and these ranges may lead
abbrev pub switch_leads : CSwitch → List CCase → List ℕ → List ℕ
switch_leads row cases ranges = map (λ (c : CCase). c.target) cases ++ ranges ++ row.otherwise ∷ []

abbrev pub leads_by_rows : List CSwitch → List CCase → List ℕ → List (List ℕ)
leads_by_rows rows cases ranges =
    map (λ (s : CSwitch × (List CCase × List ℕ)). switch_leads s.0 s.1.0 s.1.1)
    (zip rows (zip (parts (λ (s : CSwitch). s.cases) rows cases) (parts (λ (s : CSwitch). s.ranges) rows ranges)))

-- all that is said of the pools
abbrev pub facts_by_rows : CPools → Facts
facts_by_rows p = record {
  consts = length p.constants.now;
  names = map name_caps (names_in p.names.now p.starts.now);
  tokens = p.operators;
  assign_ops = p.op_assignments;
  residuals = p.fragments;
  chains = chains_by_rows p.chains.now p.steps.now;
  cases = cases_by_rows p.switches.now p.cases.now;
}

abbrev pub leads_of : CPools → List (List ℕ)
leads_of p = leads_by_rows p.switches.now p.cases.now p.ranges.now
