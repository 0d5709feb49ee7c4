use Rattle.std.proofs.Common.{◌≡◌, map, take}
use Rattle.grain_builder.specs.Assembled.{targets_of}
use Rattle.grain_builder.specs.Resolved.{resolved_tables}
use Rattle.grain_builder.proofs.resolving.resolve_tables.Given as goal

abbrev pub invariant-loop-table : goal.invariant-loop-table
invariant-loop-table l = map targets_of l.resolved.items ≡ resolved_tables l.targets (map targets_of (take l.table-index l.tables))
