use Rattle.std.proofs.Common.{◌≡◌, ◌++◌}
use Rattle.std.specs.List.{flat_map}
use Rattle.grain_pools.specs.Chain.{positions}
use Rattle.grain_pools.specs.ChainPositions.{positions_left}
use Rattle.grain_bytecode.specs.ChainStream.{AppendsAll, numbers_of}
use Rattle.grain_bytecode.proofs.sites.put_slots.Given as goal

-- the slots so far are written
abbrev pub invariant-loop-position : goal.invariant-loop-position
invariant-loop-position l = record {
  before : positions l.chain ≡ l.yielded ++ positions_left l.position-iterator;
  written : AppendsAll l.initial.stream.items l.stream.items (flat_map numbers_of l.yielded);
}
