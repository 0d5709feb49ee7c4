use Rattle.std.proofs.Common.{◌≡◌, map, take}
use Rattle.grain_builder.specs.Assembled.{label_target}
use Rattle.grain_builder.proofs.resolving.targets_of_labels.Given as goal

abbrev pub invariant-loop-label : goal.invariant-loop-label
invariant-loop-label l = l.targets.items ≡ map label_target (take l.label-index l.labels)
