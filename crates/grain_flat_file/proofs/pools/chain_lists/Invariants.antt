use Rattle.std.proofs.Common.{◌≡◌, ◌++◌, drop, map}
use Rattle.std.specs.List.{flat_map}
use Rattle.grain_flat.specs.Flat.{chain_row, step_rows}
use Rattle.grain_flat_file.specs.Contents.{step_flags}
use Rattle.grain_flat_file.proofs.pools.chain_lists.Given as goal

abbrev pub invariant-loop-chain : goal.invariant-loop-chain
invariant-loop-chain l = record {
  rows : l.lists.rows.items ++ map chain_row (drop l.chain-index l.chains) ≡ map chain_row l.chains;
  steps : l.lists.steps.items ++ flat_map step_rows (drop l.chain-index l.chains) ≡ flat_map step_rows l.chains;
  flags : l.lists.flags.items ++ flat_map step_flags (drop l.chain-index l.chains) ≡ flat_map step_flags l.chains;
}
