use Rattle.std.proofs.Common.{◌≡◌, ◌+◌, ◌≤◌, ◌<◌, ℕ, Some, length}
use Rattle.std.specs.Prelude.{slice_get}
use Rattle.grain_builder.specs.Unfinished.{StaysIn, spot}
use Rattle.rhai_emit.proofs.emitter.Emitter.arm_labels.Given as goal

abbrev pub invariant-loop-arm : goal.invariant-loop-arm
invariant-loop-arm l = record {
  first : l.first ≡ l.none + l._arm-index;
  many : length l.self.code.labels ≡ l.first + 1;
  pending : l.self.code.pending ≡ l.first + 1;
  labels : StaysIn l.initial.self.code.labels l.self.code.labels;
  outers : StaysIn l.initial.self.code.outers l.self.code.outers;
  operands : l.self.code.operands ≡ l.initial.self.code.operands;
  level : l.self.code.level ≡ l.initial.self.code.level;
  scope : l.self.scope ≡ l.initial.self.scope;
  places : l.self.code.places ≡ l.initial.self.code.places;
  here : (label : ℕ) → l.none ≤ label → label ≤ l.first → slice_get l.self.code.labels label ≡ Some (spot l.operands l.initial.self.code.level);
  outer : (label : ℕ) → l.none < label → label ≤ l.first → slice_get l.self.code.outers label ≡ Some label;
}
