use Rattle.std.proofs.Common.{ℕ, take}
use Rattle.std.specs.List.{All}
use Rattle.grain_rules.specs.Accepted.{ConstantPasses}
use Rattle.grain_rules.specs.Capabilities.{Allows}
use Rattle.grain_needs.proofs.capabilities.caps_of_constants.Given as goal

abbrev pub invariant-loop-value : goal.invariant-loop-value
invariant-loop-value l = record {
  suffice : All (ConstantPasses l.all.0) (take l.value-index l.consts);
  least : (others : ℕ) → All (ConstantPasses others) (take l.value-index l.consts) → Allows others l.all.0;
}
