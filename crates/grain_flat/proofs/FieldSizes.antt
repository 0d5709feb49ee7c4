-- Fields as records take as many bytes.
use Rattle.std.proofs.Common.{◌≡◌, ◌+◌, List, [], ◌∷◌, length, get_or, refl, ap, arith}
use Rattle.std.specs.Prelude.{sum_by}
use Rattle.grain_code.specs.declared.field.Field.{Field}
use Rattle.grain_code.specs.declared.field.Field.TheVariants.{Index, Slot, Count, Target}
use Rattle.grain_code.specs.declared.field.Pool.TheVariants as pools
use Rattle.grain_code.specs.InstructionTable.{size_of}
use Rattle.grain_flat.specs.Instruction.{field_row, field_size}
use Rattle.grain_flat.specs.declared.records.CField.{CField}

size_row : (f : Field) → field_size (field_row f) ≡ size_of f
size_row (Index pools.Constants x) = refl
size_row (Index pools.Names x) = refl
size_row (Index pools.Operators x) = refl
size_row (Index pools.OpAssignments x) = refl
size_row (Index pools.Fragments x) = refl
size_row (Index pools.Chains x) = refl
size_row (Index pools.Switches x) = refl
size_row (Index pools.SyntaxSites x) = refl
size_row (Slot x) = refl
size_row (Count x) = refl
size_row (Target x) = refl

pub sizes_of_two : (fs : List Field) (d e : Field) (a b : CField) → length fs ≡ 2 → a ≡ field_row (get_or fs 0 d) → b ≡ field_row (get_or fs 1 e)
    → field_size a + field_size b ≡ sum_by size_of fs
sizes_of_two [] d e a b two p q = absurd (omega arith)
sizes_of_two (x ∷ []) d e a b two p q = absurd (omega arith)
sizes_of_two (x ∷ y ∷ []) d e a b two p q = omega (arith, ap field_size p, ap field_size q, size_row x, size_row y)
sizes_of_two (x ∷ y ∷ z ∷ fs) d e a b two p q = absurd (omega arith)

pub sizes_of_three : (fs : List Field) (d e f : Field) (a b c : CField) → length fs ≡ 3 → a ≡ field_row (get_or fs 0 d) → b ≡ field_row (get_or fs 1 e)
    → c ≡ field_row (get_or fs 2 f) → field_size a + field_size b + field_size c ≡ sum_by size_of fs
sizes_of_three [] d e f a b c three p q r = absurd (omega arith)
sizes_of_three (x ∷ []) d e f a b c three p q r = absurd (omega arith)
sizes_of_three (x ∷ y ∷ []) d e f a b c three p q r = absurd (omega arith)
sizes_of_three (x ∷ y ∷ z ∷ []) d e f a b c three p q r = omega (arith, ap field_size p, ap field_size q, ap field_size r, size_row x, size_row y, size_row z)
sizes_of_three (x ∷ y ∷ z ∷ w ∷ fs) d e f a b c three p q r = absurd (omega arith)
