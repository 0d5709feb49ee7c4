-- Operations written as code.
use Rattle.std.specs.Prelude.{ℕ, ◌≡◌, ◌+◌, ◌^◌, ◌<◌, ◌≤◌, ⊤, sum_by, length, map, List, [], ◌∷◌, slice_index, codes, ◌==◌}
use Rattle.std.specs.List.{AllByRecursion, position_or_len}
use Rattle.grain_code.specs.declared.op.Op.{Op}
use Rattle.grain_code.specs.declared.field.Field.{Field}
use Rattle.grain_code.specs.declared.field.Field.TheVariants.{Index, Slot, Count, Target}
use Rattle.grain_code.specs.declared.field.Pool.{Pool}
use Rattle.grain_code.specs.declared.field.Pool.TheVariants.{Constants, Names, Operators, OpAssignments, Fragments, Chains, Switches, SyntaxSites}
use Rattle.grain_code.specs.InstructionTable.{decoded, form, width_of}
use Rattle.grain_code.specs.Split.{AreInstructions}

-- what is decoded if the operation was written: its canonical form, with its target mapped by the offsets
abbrev pub assembled : List ℕ → Op → Op
assembled offsets op = decoded (slice_index offsets) op

-- where operations are written, the first of them at an address, and where they end
abbrev pub offsets_from : ℕ → List Op → List ℕ
offsets_from at [] = at ∷ []
offsets_from at (op ∷ ops) = at ∷ offsets_from (at + width_of op) ops

-- The code is the operations, one after another, and the offsets are where they begin and where they end.
pub record IsAssembly (ops : List Op) (code offsets : List ℕ) : Type 0 where
  pub placed : offsets ≡ offsets_from 0 ops
  pub written : AreInstructions code (map (assembled offsets) ops)

-- a field of one of this many operations can be written
abbrev pub IsWritable : ℕ → Field → Type 0
IsWritable n (Index pool x) = x ≤ 65535
IsWritable n (Slot x) = ⊤
IsWritable n (Count x) = ⊤
IsWritable n (Target t) = t ≤ n

abbrev pub AreWritable : ℕ → List Field → Type 0
AreWritable n = AllByRecursion (IsWritable n)

-- each field of these operations, of this many in all, can be written
abbrev pub EachWritable : ℕ → List Op → Type 0
EachWritable n = AllByRecursion (λ op. AreWritable n (form op).1)

-- the sum of the widths fits u32
abbrev pub HasShortCode : List Op → Type 0
HasShortCode ops = sum_by width_of ops < 2 ^ 32

-- Operations can be assembled: the widths' sum fits u32, each index into a pool is at most 65535, and each target is at
-- most the number of operations.
pub record CanAssemble (ops : List Op) : Type 0 where
  pub short : HasShortCode ops
  pub writable : EachWritable (length ops) ops

-- what an error calls a pool
abbrev pub name_of : Pool → List ℕ
name_of Constants = codes "constants"
name_of Names = codes "names"
name_of Operators = codes "operators"
name_of OpAssignments = codes "op-assignments"
name_of Fragments = codes "fragments"
name_of Chains = codes "chains"
name_of Switches = codes "switches"
name_of SyntaxSites = codes "custom syntax sites"

-- the index of the operation that is written at an offset
abbrev pub index_of : List ℕ → ℕ → ℕ
index_of offsets at = position_or_len (λ offset. offset == at) offsets

-- disassembled operations, their targets mapped back by the offsets
abbrev pub with_indices : List ℕ → List (ℕ × Op) → List Op
with_indices offsets items = map (λ item. decoded (index_of offsets) item.1) items
