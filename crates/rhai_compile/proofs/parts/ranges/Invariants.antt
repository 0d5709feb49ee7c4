use Rattle.std.specs.List.{All, Contains}
use Rattle.grain_builder.specs.Assembled.{targets_of}
use Rattle.rhai_compile.proofs.parts.ranges.Given as goal

abbrev pub invariant-loop-place : goal.invariant-loop-place
invariant-loop-place l = All (λ r. Contains (targets_of l.targets) r.target) l.ranges.items
