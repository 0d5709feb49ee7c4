use Rattle.grain_flat.specs.Flat.{Pooled}
use Rattle.grain_flat.specs.PoolsFlaws.{PoolsFlaw}
use Rattle.grain_flat.proofs.PoolsFlaws.{tested}
use Rattle.grain_flat.proofs.flat.is_flat.Goals as goal

pub returns-clause-pooled : goal.returns-clause-pooled
returns-clause-pooled c = tested (Pooled c.args.pools.now) (PoolsFlaw c.args.pools.now) c.pools_flaw.result c.is_none.result c.is_none.ensures c.pools_flaw.ensures.pooled
