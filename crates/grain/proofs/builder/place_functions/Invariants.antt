use Rattle.std.specs.Prelude.{◌≡◌, map, slice_index}
use Rattle.grain.specs.Build.{head_of, span_of}
use Rattle.grain_rules.specs.ByIndex.{span_moved}
use Rattle.grain.proofs.builder.place_functions.Given as goal

-- so far there is a function for each head and each cut
abbrev pub invariant-loop-head : goal.invariant-loop-head
invariant-loop-head l = record {
  heads : map head_of l.functions.items ≡ map (λ p. p.0) l.yielded;
  chunks : map (λ f. f.chunk) l.functions.items ≡ map (λ p. span_moved (slice_index l.offsets) (span_of p.1.now)) l.yielded;
}
