use Rattle.std.proofs.Common.{◌≡◌, ◌++◌, map}
use Rattle.grain_flat.specs.Flat.{case_row}
use Rattle.grain_flat_file.proofs.pools.add_cases.Given as goal

abbrev pub invariant-loop-key : goal.invariant-loop-key
invariant-loop-key l = l.rows.items ++ map case_row l.key-iterator ≡ l.initial.rows.items ++ map case_row l.cases.entries
