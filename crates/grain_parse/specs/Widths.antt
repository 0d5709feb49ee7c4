-- How many bytes instructions take.
use Rattle.std.specs.Prelude.{◌≡◌, ℕ, List, ◌++◌, length}
use Rattle.grain_print.specs.declared.forms.Operand.{Operand}
use Rattle.grain_print.specs.declared.forms.Operand.TheVariants as operands

-- how many bytes an operand takes
abbrev pub operand_width : Operand → ℕ
operand_width operands.Constant = 2
operand_width operands.Name = 2
operand_width operands.Operator = 2
operand_width operands.OpAssignment = 2
operand_width operands.Fragment = 2
operand_width operands.Chain = 2
operand_width operands.Switch = 2
operand_width operands.SyntaxSite = 2
operand_width operands.Slot = 2
operand_width operands.Count = 1
operand_width operands.Target = 4

-- this number of bytes was appended
pub record Appends (count : ℕ) (old new : List ℕ) : Type 0 where
  pub bytes : List ℕ
  pub many : length bytes ≡ count
  pub behind : new ≡ old ++ bytes
