use Rattle.grain_pools.proofs.TableGrowth.{names_of_made, made_flawless}
use Rattle.grain_bytecode.proofs.laws.table_is_read_again.Goals as goal

pub returns-clause-names : goal.returns-clause-names
returns-clause-names c = names_of_made

pub returns-clause-flawless : goal.returns-clause-flawless
returns-clause-flawless c = made_flawless
