-- What is wrong with operations that can't be assembled.
use Rattle.std.specs.Prelude.{ℕ, ◌≡◌, ◌-◌, ◌^◌, List, [], ◌∷◌, ◌++◌, length, ◌==◌, drop, if◌then◌else◌}
use Rattle.grain_bytecode.specs.declared.assemble_error.AssembleError.{AssembleError}
use Rattle.grain_bytecode.specs.declared.assemble_error.AssembleError.TheVariants as errors
use Rattle.grain_code.specs.Assembly.{AreWritable, EachWritable, HasShortCode, IsWritable, name_of}
use Rattle.grain_code.specs.InstructionTable.{form}
use Rattle.grain_code.specs.declared.field.Field.{Field}
use Rattle.grain_code.specs.declared.field.Field.TheVariants.{Index, Target}
use Rattle.grain_code.specs.declared.field.Pool.{Pool}
use Rattle.grain_code.specs.declared.op.Op.{Op}
use Rattle.grain_code.specs.declared.tag.TheConstants.{CALL_NAMED_REF}

-- the error names this field of the operation at an index
abbrev pub Accuses : ℕ → Field → AssembleError → Type 0
Accuses at field (errors.PoolTooLarge what entries) = (pool : Pool) × (field ≡ Index pool entries) × (what.now ≡ name_of pool)
Accuses at field (errors.JumpOutOfRange index target) = (field ≡ Target target) × (index ≡ at)
Accuses at field (errors.SwitchTargetOutOfRange table target) = ⊥
Accuses at field (errors.ChunkTooLarge bytes) = ⊥
Accuses at field errors.OutOfMemory = ⊥

-- the error names the first of these fields that can't be written
pub record AccusesFirst (n at : ℕ) (fields : List Field) (error : AssembleError) : Type 0 where
  pub earlier : List Field
  pub bad : Field
  pub later : List Field
  pub order : fields ≡ earlier ++ bad ∷ later
  pub passed : AreWritable n earlier
  pub fails : IsWritable n bad → ⊥
  pub named : Accuses at bad error

-- of a call through a name that name, which stands behind the function's and the count
abbrev pub named_receiver : ℕ → List Field → List Field
named_receiver tag fields = if tag == CALL_NAMED_REF then drop 2 fields else []

-- the fields in the order in which they are tested: first the name through which a call reaches its receiver, if it does,
-- and then each in its order
abbrev pub tested : Op → List Field
tested op = named_receiver (form op).0 (form op).1 ++ (form op).1

-- the error names the first field, operation by operation, that can't be written
pub record AccusesFirstOf (ops : List Op) (error : AssembleError) : Type 0 where
  pub before : List Op
  pub op : Op
  pub after : List Op
  pub order : ops ≡ before ++ op ∷ after
  pub passed : EachWritable (length ops) before
  pub named : AccusesFirst (length ops) (length before) (tested op) error

-- the error is the first flaw of the operations
abbrev pub IsAssemblyFlaw : List Op → AssembleError → Type 0
IsAssemblyFlaw ops errors.OutOfMemory = ⊥
IsAssemblyFlaw ops (errors.ChunkTooLarge bytes) = (HasShortCode ops → ⊥) × (bytes ≡ 2 ^ 64 - 1)
IsAssemblyFlaw ops (errors.PoolTooLarge what entries) = HasShortCode ops × AccusesFirstOf ops (errors.PoolTooLarge what entries)
IsAssemblyFlaw ops (errors.JumpOutOfRange at target) = HasShortCode ops × AccusesFirstOf ops (errors.JumpOutOfRange at target)
IsAssemblyFlaw ops (errors.SwitchTargetOutOfRange table target) = ⊥
