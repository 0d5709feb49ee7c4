use Rattle.rhai_emit.specs.Places.{both, here, list_places}
use Rattle.rhai_emit.specs.Rules.{AddsPlaces, IsWritten}
use Rattle.rhai_compile.proofs.coder.Coder.interpolated.Given as goal

abbrev pub invariant-loop-piece : goal.invariant-loop-piece
invariant-loop-piece g l = record {
  written : IsWritten l.initial.emitter l.emitter l.initial.emitter.code.operands;
  placed : AddsPlaces l.initial.emitter l.emitter (both (here l.place) (list_places l.pieces));
}
