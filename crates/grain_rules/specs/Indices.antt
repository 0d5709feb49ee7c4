-- Indices into pools and among the operands of chains, and their bounds.
use Rattle.std.specs.Prelude.{◌≡◌, ⊤, ◌⊎◌, ◌≤◌, ◌<◌, ℕ, List, [], ◌∷◌, ◌++◌, length, map, get_or, codes}
use Rattle.std.specs.List.{AllByRecursion, Contains, flat_map}
use Rattle.grain_code.specs.InstructionTable.{form}
use Rattle.grain_code.specs.declared.op.Op.{Op}
use Rattle.grain_code.specs.declared.field.Field.{Field}
use Rattle.grain_code.specs.declared.field.Field.TheVariants.{Index, Slot, Count, Target}
use Rattle.grain_code.specs.declared.field.Pool.{Pool}
use Rattle.grain_code.specs.declared.field.Pool.TheVariants.{Constants, Names, Operators, OpAssignments, Fragments, Chains, Switches, SyntaxSites}
use Rattle.grain_rules.specs.Facts.{ChainFacts, Mention, Entry, Operand}
use Rattle.grain_rules.specs.Setting.{Setting, unset}

-- What an entry of a pool is: what a refusal calls its index, how many there are, and what each names in its turn: a chain
-- what is in it, a switch the constants of its cases.
pub record PoolRow : Type 0 where
  pub word : List ℕ
  pub size : ℕ
  pub mentions : List (List Mention)
  pub cases : List (List ℕ)

abbrev pub pool_row : Setting → Pool → PoolRow
pool_row s Constants = record { word = codes "constant"; size = s.facts.consts; mentions = []; cases = [] }
pool_row s Names = record { word = codes "name"; size = length s.facts.names; mentions = []; cases = [] }
pool_row s Operators = record { word = codes "operator"; size = s.facts.tokens; mentions = []; cases = [] }
pool_row s OpAssignments = record { word = codes "op-assignment"; size = s.facts.assign_ops; mentions = []; cases = [] }
pool_row s Fragments = record { word = codes "fragment"; size = s.facts.residuals; mentions = []; cases = [] }
pool_row s Chains = record { word = codes "chain"; size = length s.facts.chains; mentions = map (λ (c : ChainFacts). c.mentions) s.facts.chains; cases = [] }
pool_row s Switches = record { word = codes "switch"; size = length s.facts.cases; mentions = []; cases = s.facts.cases }
pool_row s SyntaxSites = record { word = codes "custom syntax site"; size = 0; mentions = []; cases = [] }

-- how many a pool has
abbrev pub size : Setting → Pool → ℕ
size s pool = (pool_row s pool).size

-- what a refusal calls an index of the pool, whatever the pools hold
abbrev pub entry_name : Pool → List ℕ
entry_name pool = (pool_row unset pool).word

-- an index that is tested: what a refusal calls it, and the number that it has to be below
pub record Test : Type 0 where
  pub what : List ℕ
  pub index : ℕ
  pub bound : ℕ

abbrev pub IsPassed : Test → Type 0
IsPassed t = t.index < t.bound

abbrev pub test_of : Setting → Mention → Test
test_of s (Entry pool x) = record { what = entry_name pool; index = x; bound = size s pool }
test_of s (Operand operands place) = record { what = codes "operand"; index = place; bound = operands }

-- an index into a pool is below its size
abbrev pub IsBounded : Setting → Mention → Type 0
IsBounded s (Entry pool x) = x < size s pool
IsBounded s (Operand operands place) = ⊤

-- what a field names
abbrev pub field_mentions : Field → List Mention
field_mentions (Index pool x) = Entry pool x ∷ []
field_mentions (Slot x) = []
field_mentions (Count x) = []
field_mentions (Target x) = []

-- what the fields of an operation name
abbrev pub own_mentions : Op → List Mention
own_mentions op = flat_map field_mentions (form op).1

-- what that names in its turn; past a pool there is none
abbrev pub further : Setting → Mention → List Mention
further s (Entry pool x) = get_or (pool_row s pool).mentions x []
further s (Operand operands place) = []

-- all that an operation names: by its own fields, and then inside its chain
abbrev pub mentions_of : Setting → Op → List Mention
mentions_of s op = own_mentions op ++ flat_map (further s) (own_mentions op)

-- their tests, in order
abbrev pub tests_of : Setting → Op → List Test
tests_of s op = map (test_of s) (mentions_of s op)

-- the constants of the cases of what an index names; past the switches there are none
abbrev pub case_constants : Setting → Mention → List ℕ
case_constants s (Entry pool x) = get_or (pool_row s pool).cases x []
case_constants s (Operand operands place) = []

-- the constants of the cases of the switch that the operation names
abbrev pub cases_of : Setting → Op → List ℕ
cases_of s op = flat_map (case_constants s) (own_mentions op)

-- every index of the operation into a pool, inside chains and switches too, is below the size of the pool
pub record IsWithinPools (s : Setting) (op : Op) : Type 0 where
  pub entries : AllByRecursion (IsBounded s) (mentions_of s op)
  pub cases : AllByRecursion (λ c. c < s.facts.consts) (cases_of s op)

-- every index of the operation, inside chains and switches too, is below its bound
pub record Indexed (s : Setting) (op : Op) : Type 0 where
  pub tests : AllByRecursion IsPassed (tests_of s op)
  pub cases : AllByRecursion (λ c. c < s.facts.consts) (cases_of s op)

-- the first test that isn't passed is of this index, which is called so
pub record IsFirstOut (s : Setting) (op : Op) (what : List ℕ) (index : ℕ) : Type 0 where
  pub earlier : List Test
  pub bad : Test
  pub later : List Test
  pub order : tests_of s op ≡ earlier ++ bad ∷ later
  pub passed : AllByRecursion IsPassed earlier
  pub fails : bad.bound ≤ bad.index
  pub what_is : what ≡ bad.what
  pub index_is : index ≡ bad.index

-- all tests are passed, and a case's constant is out of bounds
pub record IsCaseOut (s : Setting) (op : Op) (what : List ℕ) (index : ℕ) : Type 0 where
  pub passed : AllByRecursion IsPassed (tests_of s op)
  pub case : Contains (cases_of s op) index
  pub fails : s.facts.consts ≤ index
  pub named : what ≡ entry_name Constants

abbrev pub IsOut : Setting → Op → List ℕ → ℕ → Type 0
IsOut s op what index = IsFirstOut s op what index ⊎ IsCaseOut s op what index
