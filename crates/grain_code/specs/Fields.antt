-- What the parts of the assembler say of fields.
use Rattle.std.specs.Prelude.{ℕ, List, []}
use Rattle.grain_code.specs.declared.field.Field.{Field}
use Rattle.grain_code.specs.declared.field.Field.TheVariants.{Index, Slot, Count, Target}
use Rattle.grain_code.specs.declared.field.Fields.{Fields}
use Rattle.grain_code.specs.declared.field.Fields.TheVariants as fields

abbrev pub field_list : Fields → List Field
field_list fields.None = []
field_list (fields.One fs) = fs
field_list (fields.Two fs) = fs
field_list (fields.Three fs) = fs

-- the field with its target mapped
abbrev pub moved : (ℕ → ℕ) → Field → Field
moved g (Index pool x) = Index pool x
moved g (Slot x) = Slot x
moved g (Count x) = Count x
moved g (Target t) = Target (g t)
