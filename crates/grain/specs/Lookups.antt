-- Functions of a program by name, and what the indices of its instructions find.
use Rattle.std.specs.Prelude.{◌<◌, ⊤, ℕ, Bool, false, ◌&&◌, ◌==◌, List, IsSome, is_none, length, slice_get}
use Rattle.std.specs.Cmp.Lexicographic.{pointwise}
use Rattle.std.specs.List.{All}
use Rattle.std.specs.Option.{option_map_or}
use Rattle.grain_pools.specs.Pools.{Pools}
use Rattle.grain_code.specs.Split.{AreInstructions}
use Rattle.grain_code.specs.declared.function.Function.{Function}
use Rattle.grain_code.specs.declared.field.Pool.TheVariants.{Constants, Names, Operators, OpAssignments, Fragments, Chains, Switches, SyntaxSites}
use Rattle.grain_code.specs.declared.op.Op.{Op}
use Rattle.grain_rules.specs.Facts.{Mention, Entry, Operand}
use Rattle.grain_rules.specs.Indices.{cases_of, mentions_of}
use Rattle.grain.specs.Program.{Program, setting_of}

-- the pools of a program, as its look-ups see them
abbrev pub pools_of : Program → Pools
pools_of p = record {
  names = p.names;
  constants = p.consts;
  tokens = p.tokens;
  assign_ops = p.assign_ops;
  chains = p.chains;
  switches = p.switches;
}

-- whether the index finds this text among the names
abbrev pub is_text : List (List ℕ) → List ℕ → ℕ → Bool
is_text names text index = option_map_or (λ name. pointwise (λ a b. a == b) name text) (slice_get names index) false

-- whether the function has this name, by its index, and this many parameters
abbrev pub is_called : ℕ → ℕ → Function → Bool
is_called name argc f = f.name == name && length f.params.items == argc

-- whether it has them, and is declared for no receiver
abbrev pub is_untyped : ℕ → ℕ → Function → Bool
is_untyped name argc f = is_called name argc f && is_none f.this_type

-- whether it has them, and is declared for a receiver of the type of this name
abbrev pub is_typed : List (List ℕ) → ℕ → ℕ → List ℕ → Function → Bool
is_typed names name argc typed f = is_called name argc f && option_map_or (is_text names typed) f.this_type false

-- whether the function has this name, by its text, and this many parameters, and is declared for no receiver
abbrev pub is_named : List (List ℕ) → List ℕ → ℕ → Function → Bool
is_named names name argc f = is_text names name f.name && is_untyped f.name argc f

-- the index is found by its lookup, and that of a fragment is below their number
abbrev pub IsFound : Program → Mention → Type 0
IsFound p (Entry Constants x) = IsSome (slice_get p.consts x)
IsFound p (Entry Names x) = IsSome (slice_get p.names x)
IsFound p (Entry Operators x) = IsSome (slice_get p.tokens x)
IsFound p (Entry OpAssignments x) = IsSome (slice_get p.assign_ops x)
IsFound p (Entry Fragments x) = x < p.residuals
IsFound p (Entry Chains x) = IsSome (slice_get p.chains x)
IsFound p (Entry Switches x) = IsSome (slice_get p.switches x)
IsFound p (Entry SyntaxSites x) = ⊥
IsFound p (Operand operands place) = ⊤

-- each index that the operation names, and each inside the chain or the switch that it names, is found
pub record AreFound (p : Program) (op : Op) : Type 0 where
  pub entries : All (IsFound p) (mentions_of (setting_of p) op)
  pub cases : All (λ x. IsSome (slice_get p.consts x)) (cases_of (setting_of p) op)

-- the code is instructions whose indices are found
abbrev pub FindsIndices : Program → Type 0
FindsIndices p = (ops : List Op) × AreInstructions p.code ops × All (AreFound p) ops
