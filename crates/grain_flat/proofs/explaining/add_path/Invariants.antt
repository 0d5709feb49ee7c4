use Rattle.std.proofs.Common.{◌≡◌, ◌++◌, map, Bor}
use Rattle.grain_explain.specs.declared.row.Row.{Row}
use Rattle.grain_flat.specs.Explaining.{path_row}
use Rattle.grain_flat.proofs.explaining.add_path.Given as goal

abbrev pub invariant-loop-row : goal.invariant-loop-row
invariant-loop-row l = l.records.items ≡ l.initial.records.items ++ map path_row (map (λ (x : Bor Row). x.now) l.yielded)
