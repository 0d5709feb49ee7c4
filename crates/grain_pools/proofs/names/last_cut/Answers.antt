use Rattle.grain_pools.proofs.Cuts.{last_cut_found}
use Rattle.grain_pools.proofs.names.last_cut.Goals as goal

pub returns : goal.returns
returns c = last_cut_found c.args.name.now c.rsplit_once.result c.rsplit_once.ensures.cases
