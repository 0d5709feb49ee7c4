use Rattle.std.specs.List.{AllWithin}
use Rattle.grain_flat.specs.Asking.{RowPasses}
use Rattle.grain_flat.proofs.asking.first_refused.Given as goal

abbrev pub invariant-loop-row : goal.invariant-loop-row
invariant-loop-row l = AllWithin (RowPasses l.caps.0) l.rows 0 l.row-index
