use Rattle.std.proofs.Common.{◌≡◌, map, take, ◌∷◌}
use Rattle.grain_flat_file.proofs.functions.chunk_rows.Given as goal

abbrev pub invariant-loop-function : goal.invariant-loop-function
invariant-loop-function l = l.rows.items ≡ l.program.main ∷ map (λ f. f.chunk) (take l.function-index l.function-items)
