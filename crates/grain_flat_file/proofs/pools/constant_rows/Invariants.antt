use Rattle.std.proofs.Common.{◌≡◌, ◌++◌, drop, map}
use Rattle.grain_flat_file.specs.Contents.{constant_row}
use Rattle.grain_flat_file.proofs.pools.constant_rows.Given as goal

abbrev pub invariant-loop-constant : goal.invariant-loop-constant
invariant-loop-constant l = l.rows.items ++ map constant_row (drop l.constant-index l.constants) ≡ map constant_row l.constants
