-- An instruction as it crosses to C.
use Rattle.std.specs.Prelude.{ℕ, List, [], ◌∷◌, ◌++◌, map, take, ◌==◌, if◌then◌else◌}
use Rattle.grain_code.specs.InstructionTable.{form, width_of}
use Rattle.grain_code.specs.declared.field.Field.{Field}
use Rattle.grain_code.specs.declared.field.Field.TheVariants.{Index, Slot, Count, Target}
use Rattle.grain_code.specs.declared.field.Pool.{Pool}
use Rattle.grain_code.specs.declared.field.Pool.TheVariants as pools
use Rattle.grain_code.specs.declared.op.Op.{Op}
use Rattle.grain_flat.specs.declared.kinds.TheConstants.{NOTHING, CONSTANT, NAME, OPERATOR, OP_ASSIGNMENT, FRAGMENT, CHAIN, SWITCH, SYNTAX_SITE, SLOT, COUNT, TARGET}
use Rattle.grain_flat.specs.declared.records.CField.{CField}
use Rattle.grain_flat.specs.declared.records.CInstruction.{CInstruction}

-- what an index into a pool is
abbrev pub pool_kind : Pool → ℕ
pool_kind pools.Constants = CONSTANT
pool_kind pools.Names = NAME
pool_kind pools.Operators = OPERATOR
pool_kind pools.OpAssignments = OP_ASSIGNMENT
pool_kind pools.Fragments = FRAGMENT
pool_kind pools.Chains = CHAIN
pool_kind pools.Switches = SWITCH
pool_kind pools.SyntaxSites = SYNTAX_SITE

-- a field as a record
abbrev pub field_row : Field → CField
field_row (Index pool x) = record { kind = pool_kind pool; value = x }
field_row (Slot x) = record { kind = SLOT; value = x }
field_row (Count x) = record { kind = COUNT; value = x }
field_row (Target x) = record { kind = TARGET; value = x }

abbrev pub no_field : CField
no_field = record { kind = NOTHING; value = 0 }

-- fields, of which there are three at most, and then empty ones
abbrev pub field_rows : List Field → List CField
field_rows fields = take 3 (map field_row fields ++ no_field ∷ no_field ∷ no_field ∷ [])

-- an operation by the instruction table
abbrev pub instruction_row : Op → CInstruction
instruction_row op = record { tag = (form op).0; width = width_of op; fields = field_rows (form op).1 }

-- how many bytes a field takes
abbrev pub field_size : CField → ℕ
field_size f =
    if f.kind == NOTHING then 0
    else if f.kind == COUNT then 1
    else if f.kind == TARGET then 4
    else 2
