use Rattle.std.proofs.Common.{◌≡◌, ◌+◌}
use Rattle.grain_builder.specs.Unfinished.{StaysIn}
use Rattle.rhai_emit.specs.Places.{arms_places}
use Rattle.rhai_emit.specs.Rules.{AddsPlaces}
use Rattle.rhai_emit.specs.Switches.{AreArms}
use Rattle.rhai_compile.proofs.coder.Coder.switch.Given as goal

abbrev pub invariant-loop-index : goal.invariant-loop-index
invariant-loop-index g l = record {
  pending : l.emitter.code.pending + l.index ≡ l.labels.first + 1;
  operands : l.emitter.code.operands ≡ l.initial.emitter.code.operands;
  level : l.emitter.code.level ≡ l.initial.emitter.code.level;
  labels : StaysIn l.initial.emitter.code.labels l.emitter.code.labels;
  outers : StaysIn l.initial.emitter.code.outers l.emitter.code.outers;
  around : l.emitter.scope.around ≡ l.initial.emitter.scope.around;
  placed : AddsPlaces l.initial.emitter l.emitter (arms_places l.arms);
  arms : AreArms l.labels l.emitter.code.operands l.emitter.code;
}
