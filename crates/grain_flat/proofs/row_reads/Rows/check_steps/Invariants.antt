use Rattle.std.proofs.Common.{◌≡◌, drop, map}
use Rattle.std.specs.List.{flat_map}
use Rattle.grain_rules.specs.FirstOut.{alone, first_out}
use Rattle.grain_rules.specs.Indices.{test_of}
use Rattle.grain_flat.specs.RowFacts.{facts_by_rows, step_by_row}
use Rattle.grain_flat.proofs.row_reads.Rows.check_steps.Given as goal

-- what is left to test decides
abbrev pub invariant-loop-row : goal.invariant-loop-row
invariant-loop-row l =
    let test = test_of (alone (facts_by_rows l.self)) in
    first_out (map test (flat_map (step_by_row l.operands) l.rows)) ≡ first_out (map test (flat_map (step_by_row l.operands) (drop l.row-index l.rows)))
