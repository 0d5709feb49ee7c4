use Rattle.std.proofs.Common.{◌≡◌, map, take}
use Rattle.grain_builder.specs.Assembled.{place_in}
use Rattle.grain_builder.proofs.resolving.source_places.Given as goal

abbrev pub invariant-loop-placed : goal.invariant-loop-placed
invariant-loop-placed l = l.found.items ≡ map place_in (take l.placed-index l.ops)
