use Rattle.std.proofs.Common.{◌+◌}
use Rattle.rhai_emit.specs.Places.{list_places}
use Rattle.rhai_emit.specs.Rules.{AddsPlaces, IsWritten}
use Rattle.rhai_compile.proofs.coder.Coder.all.Given as goal

abbrev pub invariant-loop-item : goal.invariant-loop-item
invariant-loop-item g l = record {
  written : IsWritten l.initial.emitter l.emitter (l.initial.emitter.code.operands + l.item-index);
  placed : AddsPlaces l.initial.emitter l.emitter (list_places l.list);
}
