use Rattle.std.proofs.Common.{◌≡◌, ◌++◌, drop, take}
use Rattle.grain_flat_file.specs.Values.{placed_rows}
use Rattle.grain_flat_file.proofs.values.place.Given as goal

abbrev pub invariant-loop-row : goal.invariant-loop-row
invariant-loop-row l = take l.row-index l.rows ++ placed_rows l.from (drop l.row-index l.rows) ≡ placed_rows 0 l.initial.rows
