-- The text of an instruction: what it is called, and its fields in order.
use Rattle.std.specs.Prelude.{ℕ, List, [], ◌∷◌, ◌++◌, decimal, get_or, ◌==◌, if◌then◌else◌}
use Rattle.std.specs.List.{flat_map}
use Rattle.grain_code.specs.InstructionTable.{form}
use Rattle.grain_code.specs.declared.op.Op.{Op}
use Rattle.grain_flat.specs.Instruction.{instruction_row}
use Rattle.grain_flat.specs.TagNames.{tag_names}
use Rattle.grain_flat.specs.declared.kinds.TheConstants.{NOTHING}
use Rattle.grain_flat.specs.declared.records.CField.{CField}

-- what an operation is called: its tag's name in docs/FORMAT.md ("Instructions")
abbrev pub mnemonic : Op → List ℕ
mnemonic op = get_or tag_names (form op).0 []

-- a space and a field's number; of an empty field nothing
abbrev pub field_text : CField → List ℕ
field_text f = if f.kind == NOTHING then [] else 32 ∷ decimal f.value

abbrev pub instruction_text : Op → List ℕ
instruction_text op = mnemonic op ++ flat_map field_text (instruction_row op).fields
