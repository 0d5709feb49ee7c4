use Rattle.grain_bytecode.proofs.KnownFlags.{all_flags, known_flags}
use Rattle.grain_bytecode.proofs.laws.flags_have_the_lowest_bit.Goals as goal

pub returns-clause-all : goal.returns-clause-all
returns-clause-all c = all_flags

pub returns-clause-known : goal.returns-clause-known
returns-clause-known c = known_flags
