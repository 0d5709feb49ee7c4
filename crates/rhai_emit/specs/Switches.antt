-- Where the arms of a switch begin.
use Rattle.std.specs.Prelude.{◌≡◌, ℕ, ◌+◌, ◌<◌, ◌≤◌, slice_get, Some}
use Rattle.std.specs.List.{All}
use Rattle.grain_builder.specs.Unfinished.{Unfinished, spot}
use Rattle.grain_builder.specs.declared.assembler.TableTargets.{TableTargets}
use Rattle.rhai_emit.specs.declared.dispatch.Labels.{Labels}

-- At the labels of the arms, and at that where no arm is taken, this many operands are found. Each was made when the one before
-- it was the last that was open.
pub record AreArms (l : Labels) (operands : ℕ) (code : Unfinished) : Type 0 where
  pub ordered : l.none ≤ l.first
  pub arms : (label : ℕ) → l.none ≤ label → label ≤ l.first → slice_get code.labels label ≡ Some (spot operands code.level)
  pub outers : (label : ℕ) → l.none < label → label ≤ l.first → slice_get code.outers label ≡ Some label
  pub last : slice_get code.outers l.none ≡ Some (l.end + 1)

-- a label of an arm, or that where no arm is taken
abbrev pub IsArm : Labels → ℕ → Type 0
IsArm l label = (l.none ≤ label) × (label ≤ l.first)

-- each target is one of these labels
pub record LeadToArms (l : Labels) (t : TableTargets) : Type 0 where
  pub cases : All (IsArm l) t.cases.items
  pub default : IsArm l t.default
