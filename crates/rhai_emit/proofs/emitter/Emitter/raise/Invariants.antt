use Rattle.rhai_emit.specs.Rules.{AddsPlaces, IsWritten}
use Rattle.rhai_emit.specs.Places.{here}
use Rattle.rhai_emit.proofs.emitter.Emitter.raise.Given as goal

abbrev pub invariant-turns : goal.invariant-turns
invariant-turns l = record {
  written : IsWritten l.initial.self l.self l.initial.self.code.operands;
  placed : AddsPlaces l.initial.self l.self (here l.place);
}
