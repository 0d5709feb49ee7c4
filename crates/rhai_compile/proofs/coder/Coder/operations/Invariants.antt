use Rattle.rhai_emit.specs.Places.{operations_places}
use Rattle.rhai_emit.specs.Rules.{AddsPlaces, IsWritten}
use Rattle.rhai_compile.proofs.coder.Coder.operations.Given as goal

abbrev pub invariant-loop-operation : goal.invariant-loop-operation
invariant-loop-operation g l = record {
  written : IsWritten l.initial.emitter l.emitter l.initial.emitter.code.operands;
  placed : AddsPlaces l.initial.emitter l.emitter (operations_places l.rest);
}
