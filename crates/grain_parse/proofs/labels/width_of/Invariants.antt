use Rattle.std.proofs.Common.{◌≡◌, ◌+◌, min, take}
use Rattle.std.specs.List.{sum_by}
use Rattle.grain_parse.specs.Widths.{operand_width}
use Rattle.grain_parse.proofs.labels.width_of.Given as goal

abbrev pub invariant-loop-operand : goal.invariant-loop-operand
invariant-loop-operand l = l.width ≡ min (1 + sum_by operand_width (take l.operand-index l.form.operands.now)) 4294967295
