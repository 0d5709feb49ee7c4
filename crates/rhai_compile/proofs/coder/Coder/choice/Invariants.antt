use Rattle.rhai_emit.specs.Places.{branches_places}
use Rattle.rhai_emit.specs.Rules.{AddsPlaces, IsWritten}
use Rattle.rhai_compile.proofs.coder.Coder.choice.Given as goal

abbrev pub invariant-loop-branch : goal.invariant-loop-branch
invariant-loop-branch g l = record {
  written : IsWritten l.initial.emitter l.emitter l.initial.emitter.code.operands;
  placed : AddsPlaces l.initial.emitter l.emitter (branches_places l.branches);
}
