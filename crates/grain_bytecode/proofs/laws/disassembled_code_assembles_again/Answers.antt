use Rattle.grain_bytecode.proofs.AssemblyRoundTrip.{can_again, same_again}
use Rattle.grain_bytecode.proofs.laws.disassembled_code_assembles_again.Goals as goal

pub returns-clause-can : goal.returns-clause-can
returns-clause-can c = can_again

pub returns-clause-same : goal.returns-clause-same
returns-clause-same c = same_again
