use Rattle.std.proofs.Common.{◌≡◌, ◌+◌, length}
use Rattle.grain_pools.specs.Chain.{positions}
use Rattle.grain_pools.specs.ChainPositions.{positions_left}
use Rattle.grain_bytecode.proofs.sites.count_more.Given as goal

-- those that are left are to be counted
abbrev pub invariant-loop-position : goal.invariant-loop-position
invariant-loop-position l = l.count + length (positions_left l._position-iterator) ≡ l.before + length (positions l.chain)
