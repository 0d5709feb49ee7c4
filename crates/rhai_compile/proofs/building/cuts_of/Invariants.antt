use Rattle.std.proofs.Common.{◌≡◌, map, take}
use Rattle.grain.specs.Build.{span_of}
use Rattle.rhai_compile.proofs.building.cuts_of.Given as goal

abbrev pub invariant-loop-chunk : goal.invariant-loop-chunk
invariant-loop-chunk l = map span_of l.cuts.items ≡ take l.chunk-index l.chunks
