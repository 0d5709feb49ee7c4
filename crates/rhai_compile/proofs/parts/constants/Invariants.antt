use Rattle.std.specs.List.{All}
use Rattle.grain_rules.specs.Accepted.{ConstantPasses}
use Rattle.rhai_compile.specs.Capabilities.{every_capability}
use Rattle.rhai_compile.proofs.parts.constants.Given as goal

abbrev pub invariant-loop-literal : goal.invariant-loop-literal
invariant-loop-literal l = All (ConstantPasses every_capability) l.consts.items
