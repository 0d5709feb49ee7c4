use Rattle.grain_rules.proofs.ChainTests.{within_pools}
use Rattle.grain_rules.proofs.laws.indices_in_bounds_lie_in_pools.Goals as goal

pub returns : goal.returns
returns c = within_pools
