-- What the texts of disassembly look up, and what of it isn't there.
use Rattle.std.specs.Prelude.{ℕ, ◌≡◌, ⊤, Bool, true, List, [], ◌∷◌, ◌++◌, Option, Some, None, Result, MatchResult, IsSomeAnd, codes, cond, decimal, is_none, map, slice_get}
use Rattle.std.specs.List.{find, flat_map}
use Rattle.std.specs.Option.{option_map_or}
use Rattle.std.specs.Ordering.{is_lt, nat_cmp, ordering_then}
use Rattle.grain_pools.specs.Dispatch.{arms, listed}
use Rattle.grain_pools.specs.declared.assign_op.AssignOp.{AssignOp}
use Rattle.grain_pools.specs.declared.chain.Chain.{Chain}
use Rattle.grain_pools.specs.declared.chain.Root.{Root}
use Rattle.grain_pools.specs.declared.chain.Root.TheVariants as roots
use Rattle.grain_pools.specs.declared.chain.Step.{Step}
use Rattle.grain_pools.specs.declared.chain.Step.TheVariants as steps
use Rattle.grain_pools.specs.declared.chain.Tail.{Tail}
use Rattle.grain_pools.specs.declared.chain.Tail.TheVariants as tails
use Rattle.grain_pools.specs.declared.switch.Switch.{Switch}
use Rattle.grain_pools.specs.declared.text.error.DisassembleError.{DisassembleError}
use Rattle.grain_pools.specs.declared.text.error.DisassembleError.TheVariants as errors
use Rattle.grain_pools.specs.Pools.{Pools}

-- an index that a text looks up, by the pool that it leads into
pub data Sought : Type 0 where
  name : ℕ → Sought
  constant : ℕ → Sought
  operator : ℕ → Sought
  op_assignment : ℕ → Sought
  chain : ℕ → Sought
  switch : ℕ → Sought
  syntax_site : ℕ → Sought

-- whether the index finds nothing; there is no pool of sites of custom syntax
abbrev pub is_missing : Pools → Sought → Bool
is_missing p (name i) = is_none (slice_get p.names i)
is_missing p (constant i) = is_none (slice_get p.constants i)
is_missing p (operator i) = is_none (slice_get p.tokens i)
is_missing p (op_assignment i) = is_none (slice_get p.assign_ops i)
is_missing p (chain i) = is_none (slice_get p.chains i)
is_missing p (switch i) = is_none (slice_get p.switches i)
is_missing p (syntax_site i) = true

-- the first that finds nothing
abbrev pub first_missing : Pools → List Sought → Option Sought
first_missing p sought = find (is_missing p) sought

-- what an error calls it
abbrev pub word_of : Sought → List ℕ
word_of (name i) = codes "name"
word_of (constant i) = codes "constant"
word_of (operator i) = codes "operator"
word_of (op_assignment i) = codes "op-assignment"
word_of (chain i) = codes "chain"
word_of (switch i) = codes "switch"
word_of (syntax_site i) = codes "custom syntax site"

abbrev pub sought_index : Sought → ℕ
sought_index (name i) = i
sought_index (constant i) = i
sought_index (operator i) = i
sought_index (op_assignment i) = i
sought_index (chain i) = i
sought_index (switch i) = i
sought_index (syntax_site i) = i

-- The texts' look-ups, in the order in which they are made. What is looked up behind an index follows it, if the index
-- finds something.
abbrev pub assign_op_sought : AssignOp → Pools → List Sought
assign_op_sought a p = name a.op_assign_name ∷ name a.op_name ∷ []

abbrev pub assign_op_at_sought : ℕ → Pools → List Sought
assign_op_at_sought i p = op_assignment i ∷ option_map_or (λ a. assign_op_sought a p) (slice_get p.assign_ops i) []

abbrev pub assigned_sought : Option ℕ → Pools → List Sought
assigned_sought None p = []
assigned_sought (Some o) p = assign_op_at_sought o p

abbrev pub step_sought : Step → Pools → List Sought
step_sought (steps.Index operand flags pos bracket) p = []
step_sought (steps.Property n getter setter flags pos) p = name n ∷ []
step_sought (steps.Method n argc operand flags pos) p = name n ∷ []

abbrev pub steps_sought : List Step → Pools → List Sought
steps_sought ss p = flat_map (λ s. step_sought s p) ss

abbrev pub root_sought : Root → Pools → List Sought
root_sought (roots.Local slot n) p = name n ∷ []
root_sought (roots.Named n pos) p = name n ∷ []
root_sought (roots.This pos) p = []
root_sought roots.Temporary p = []

abbrev pub tail_sought : Tail → Pools → List Sought
tail_sought tails.Read p = []
tail_sought (tails.Assign o) p = assigned_sought o p

-- of a chain's steps and its tail
abbrev pub path_sought : List Step → Tail → Pools → List Sought
path_sought ss tail p = steps_sought ss p ++ tail_sought tail p

abbrev pub chain_sought : Chain → Pools → List Sought
chain_sought c p = root_sought c.root p ++ path_sought c.steps.items c.tail p

abbrev pub chain_at_sought : ℕ → Pools → List Sought
chain_at_sought i p = chain i ∷ option_map_or (λ c. chain_sought c p) (slice_get p.chains i) []

-- by target, and then by the index of the constant
abbrev pub is_before : ℕ × ℕ → ℕ × ℕ → Bool
is_before c d = is_lt (ordering_then (nat_cmp c.0 d.0) (nat_cmp c.1 d.1))

abbrev pub insert_case : ℕ × ℕ → List (ℕ × ℕ) → List (ℕ × ℕ)
insert_case c [] = c ∷ []
insert_case c (d ∷ ds) = cond (is_before d c) (d ∷ insert_case c ds) (c ∷ d ∷ ds)

-- the targets and constants of cases, ordered
abbrev pub in_order : List (ℕ × ℕ) → List (ℕ × ℕ)
in_order [] = []
in_order (c ∷ cs) = insert_case c (in_order cs)

-- of each case its target and the index of its constant, in the order of the text
abbrev pub ordered_cases : Switch → List (ℕ × ℕ)
ordered_cases s = in_order (map (λ c. c.1) (listed (arms s).cases))

abbrev pub cases_sought : List (ℕ × ℕ) → Pools → List Sought
cases_sought cs p = map (λ c. constant c.1) cs

abbrev pub switch_sought : Switch → Pools → List Sought
switch_sought s p = cases_sought (ordered_cases s) p

abbrev pub switch_at_sought : ℕ → Pools → List Sought
switch_at_sought i p = switch i ∷ option_map_or (λ s. switch_sought s p) (slice_get p.switches i) []

abbrev pub names_sought : List ℕ → Pools → List Sought
names_sought ns p = map name ns

-- the error is a lack of memory, or names this
abbrev pub NamesFirst : Option Sought → DisassembleError → Type 0
NamesFirst first (errors.Missing what index) = IsSomeAnd first (λ x. (what.now ≡ word_of x) × (index ≡ sought_index x))
NamesFirst first errors.OutOfMemory = ⊤

-- each index that is looked up finds something
abbrev pub FindsAll : Pools → (Pools → List Sought) → Type 0
FindsAll p sought = first_missing p (sought p) ≡ None

-- the error is a lack of memory, or names the first index that finds nothing
abbrev pub NamesMissing : Pools → (Pools → List Sought) → DisassembleError → Type 0
NamesMissing p sought error = NamesFirst (first_missing p (sought p)) error

-- what the answer of a call says that looks these up
abbrev pub LooksUp : {T : Type 0} → Pools → (Pools → List Sought) → Result T DisassembleError → Type 0
LooksUp p sought r = MatchResult r (λ _. FindsAll p sought) (NamesMissing p sought)

-- what is printed of an error
abbrev pub disassemble_error_text : DisassembleError → List ℕ
disassemble_error_text (errors.Missing what index) =
    codes "disassembly needs " ++ (what.now ++ (codes " " ++ (decimal index ++ codes ", which isn't there")))
disassemble_error_text errors.OutOfMemory = codes "out of memory"
