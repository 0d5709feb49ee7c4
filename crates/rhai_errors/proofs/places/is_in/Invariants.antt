use Rattle.std.proofs.Common.{ℕ, ◌<◌, length, take}
use Rattle.std.specs.Str.{chars}
use Rattle.rhai_errors.specs.Places.{IsBehind}
use Rattle.rhai_errors.proofs.Behind.{AreBehind}
use Rattle.rhai_errors.proofs.places.is_in.Given as goal

abbrev pub invariant-loop-c : goal.invariant-loop-c
invariant-loop-c l = record {
  behind : AreBehind (chars l.source) (length l.yielded) l.lines l.columns;
  passed : (k : ℕ) → k < length l.yielded → IsBehind (take k (chars l.source)) l.fn.place → ⊥;
}
