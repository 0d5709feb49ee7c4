use Rattle.std.proofs.Common.{◌+◌, nat_lt}
use Rattle.rhai_emit.specs.Loops.{count}
use Rattle.rhai_emit.specs.Places.{both, here, expr_places, steps_places}
use Rattle.rhai_emit.specs.Rules.{AddsPlaces, IsWritten}
use Rattle.rhai_compile.proofs.coder.Coder.access.Given as goal

abbrev pub invariant-loop-index : goal.invariant-loop-index
invariant-loop-index g l = record {
  written : IsWritten l.initial.emitter l.emitter (l.initial.emitter.code.operands + count (nat_lt 0 l.from));
  placed : AddsPlaces l.initial.emitter l.emitter (both (here l.place) (both (expr_places l.root) (steps_places l.steps)));
}
