use Rattle.std.specs.List.{AllWithin}
use Rattle.grain_rules.specs.Accepted.{ConstantPasses}
use Rattle.grain_rules.proofs.constants.check_constants.Given as goal

-- each constant so far passes
abbrev pub invariant-loop-value : goal.invariant-loop-value
invariant-loop-value l = AllWithin (ConstantPasses l.caps.0) l.consts 0 l.value-index
