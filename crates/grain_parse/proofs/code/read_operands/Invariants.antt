use Rattle.std.proofs.Common.{take}
use Rattle.std.specs.List.{sum_by}
use Rattle.grain_parse.specs.Widths.{Appends, operand_width}
use Rattle.grain_parse.proofs.code.read_operands.Given as goal

abbrev pub invariant-loop-operand : goal.invariant-loop-operand
invariant-loop-operand l = Appends (sum_by operand_width (take l.operand-index l.operands)) l.initial.code.items l.code.items
