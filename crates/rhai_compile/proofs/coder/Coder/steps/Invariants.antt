use Rattle.std.proofs.Common.{◌≤◌}
use Rattle.rhai_emit.specs.Places.{steps_places}
use Rattle.rhai_emit.specs.Rules.{AddsPlaces, IsWritten}
use Rattle.rhai_compile.proofs.coder.Coder.steps.Given as goal

abbrev pub invariant-loop-step : goal.invariant-loop-step
invariant-loop-step g l = record {
  written : IsWritten l.initial.emitter l.emitter l.emitter.code.operands;
  placed : AddsPlaces l.initial.emitter l.emitter (steps_places l.steps);
  more : l.initial.emitter.code.operands ≤ l.emitter.code.operands;
}
