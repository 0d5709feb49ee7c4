use Rattle.std.proofs.Common.{◌≡◌, map, take}
use Rattle.grain_parse.specs.Depths.{max_stack_of}
use Rattle.grain_parse.proofs.chunks.declared.Given as goal

abbrev pub invariant-loop-chunk : goal.invariant-loop-chunk
invariant-loop-chunk l = l.stacks.items ≡ map max_stack_of (take l.chunk-index l.chunks)
