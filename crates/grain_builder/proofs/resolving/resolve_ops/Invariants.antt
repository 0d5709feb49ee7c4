use Rattle.std.proofs.Common.{◌≡◌, map, take}
use Rattle.grain_builder.specs.Assembled.{op_in}
use Rattle.grain_builder.specs.Resolved.{resolved_op}
use Rattle.grain_builder.proofs.resolving.resolve_ops.Given as goal

abbrev pub invariant-loop-placed : goal.invariant-loop-placed
invariant-loop-placed l = l.found.items ≡ map (resolved_op l.targets) (map op_in (take l.placed-index l.ops))
