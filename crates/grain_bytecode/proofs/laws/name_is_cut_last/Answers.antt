use Rattle.grain_pools.proofs.Cuts.{last_cut_is, last_cut_none}
use Rattle.grain_bytecode.proofs.laws.name_is_cut_last.Goals as goal

pub returns-clause-cut : goal.returns-clause-cut
returns-clause-cut c = last_cut_is

pub returns-clause-uncut : goal.returns-clause-uncut
returns-clause-uncut c = last_cut_none
