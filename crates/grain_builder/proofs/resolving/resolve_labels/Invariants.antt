use Rattle.std.proofs.Common.{◌≡◌, map, take}
use Rattle.std.specs.Prelude.{slice_index}
use Rattle.grain_builder.proofs.resolving.resolve_labels.Given as goal

abbrev pub invariant-loop-label : goal.invariant-loop-label
invariant-loop-label l = l.resolved.items ≡ map (slice_index l.targets) (take l.label-index l.labels)
