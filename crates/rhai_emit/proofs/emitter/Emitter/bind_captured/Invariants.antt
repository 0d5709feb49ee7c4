use Rattle.std.proofs.Common.{◌+◌}
use Rattle.rhai_emit.specs.Rules.{AddsPlaces, IsWritten}
use Rattle.rhai_emit.specs.Places.{here}
use Rattle.rhai_emit.proofs.emitter.Emitter.bind_captured.Given as goal

abbrev pub invariant-loop-slot : goal.invariant-loop-slot
invariant-loop-slot l = record {
  written : IsWritten l.initial.self l.self (l.initial.self.code.operands + l.slot-index);
  placed : AddsPlaces l.initial.self l.self (here l.place);
}
