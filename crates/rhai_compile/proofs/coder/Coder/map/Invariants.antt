use Rattle.std.proofs.Common.{◌+◌, ◌*◌}
use Rattle.rhai_emit.specs.Places.{entries_places}
use Rattle.rhai_emit.specs.Rules.{AddsPlaces, IsWritten}
use Rattle.rhai_compile.proofs.coder.Coder.map.Given as goal

abbrev pub invariant-loop-entry : goal.invariant-loop-entry
invariant-loop-entry g l = record {
  written : IsWritten l.initial.emitter l.emitter (l.initial.emitter.code.operands + 2 * l.entry-index);
  placed : AddsPlaces l.initial.emitter l.emitter (entries_places l.entries);
}
