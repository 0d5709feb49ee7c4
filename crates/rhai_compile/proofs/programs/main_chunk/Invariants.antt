use Rattle.rhai_emit.specs.Places.{list_places}
use Rattle.rhai_emit.specs.Rules.{AddsPlaces, IsWritten}
use Rattle.rhai_compile.proofs.programs.main_chunk.Given as goal

abbrev pub invariant-loop-statement : goal.invariant-loop-statement
invariant-loop-statement l = record {
  written : IsWritten l.initial.emitter l.emitter l.initial.emitter.code.operands;
  placed : AddsPlaces l.initial.emitter l.emitter (list_places l.others);
}
