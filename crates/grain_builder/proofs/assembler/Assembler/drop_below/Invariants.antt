use Rattle.std.proofs.Common.{◌-◌}
use Rattle.grain_builder.specs.Unfinished.{AddsPlace, LeavesOperands}
use Rattle.grain_builder.proofs.assembler.Assembler.drop_below.Given as goal

abbrev pub invariant-operands : goal.invariant-operands
invariant-operands l = record {
  leaves : LeavesOperands l.initial.self l.self (l.initial.self.operands - l._turn);
  placed : AddsPlace l.initial.self l.self l.place;
}
