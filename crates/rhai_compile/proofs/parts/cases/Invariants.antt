use Rattle.std.specs.HashMap.{values}
use Rattle.std.specs.List.{All, Contains}
use Rattle.grain_builder.specs.Assembled.{targets_of}
use Rattle.rhai_compile.proofs.parts.cases.Given as goal

abbrev pub invariant-loop-place : goal.invariant-loop-place
invariant-loop-place l = All (λ v. Contains (targets_of l.targets) v.0) (values l.cases)
