use Rattle.grain_code.proofs.Boundaries.{one_end}
use Rattle.grain_code.proofs.Splits.{one_split}
use Rattle.grain_bytecode.proofs.laws.code_splits_in_one_way.Goals as goal

pub returns-clause-starts : goal.returns-clause-starts
returns-clause-starts c = one_split

pub returns-clause-front : goal.returns-clause-front
returns-clause-front c = one_end
