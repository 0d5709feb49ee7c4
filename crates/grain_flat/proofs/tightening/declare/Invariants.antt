use Rattle.std.proofs.Common.{◌≡◌, map, length, take}
use Rattle.grain_code.specs.Span.{undeclared_chunk}
use Rattle.grain_flat.proofs.tightening.declare.Given as goal

-- the first chunks declare their numbers
abbrev pub invariant-loop-index : goal.invariant-loop-index
invariant-loop-index l = record {
  long : length l.chunks ≡ length l.initial.chunks;
  declared : map (λ chunk. chunk.max_stack) (take l.index l.chunks) ≡ take l.index l.depths;
  rest : map undeclared_chunk l.chunks ≡ map undeclared_chunk l.initial.chunks;
}
