use Rattle.std.proofs.Common.{◌≡◌, map, take, ◌∷◌}
use Rattle.grain.proofs.program.Program.chunks.Given as goal

abbrev pub invariant-loop-function : goal.invariant-loop-function
invariant-loop-function l = l.chunks.items ≡ l.self.main ∷ map (λ f. f.chunk) (take l.function-index l.function-items)
