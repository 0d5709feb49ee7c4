use Rattle.std.proofs.Common.{map, take, ◌∷◌}
use Rattle.grain.specs.Program.{IsGreatest}
use Rattle.grain.proofs.program.Program.max_stack.Given as goal

abbrev pub invariant-loop-function : goal.invariant-loop-function
invariant-loop-function l = IsGreatest (map (λ chunk. chunk.max_stack) (l.self.main ∷ map (λ f. f.chunk) (take l.function-index l.function-items))) l.most
