use Rattle.grain_bytecode.proofs.LastOperands.{taken_last, taken_none}
use Rattle.grain_bytecode.proofs.laws.last_operand_is_the_last.Goals as goal

pub returns-clause-last : goal.returns-clause-last
returns-clause-last c = taken_last

pub returns-clause-none : goal.returns-clause-none
returns-clause-none c = taken_none
