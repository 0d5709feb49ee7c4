-- What an iterator over the positions of a chain has left.
use Rattle.std.specs.Prelude.{List, ◌++◌}
use Rattle.std.specs.Option.{option_to_list}
use Rattle.grain_base.specs.declared.position.Position.{Position}
use Rattle.grain_pools.specs.Chain.{steps_positions}
use Rattle.grain_pools.specs.declared.chain.ChainPositions.{ChainPositions}

abbrev pub positions_left : ChainPositions → List Position
positions_left it = option_to_list it.next ++ steps_positions it.steps.now
