use Rattle.grain_code.proofs.WholeDisassembly.{drained}
use Rattle.grain_code.proofs.disassembly.disassemble_from.Goals as goal

pub returns-clause-gives : goal.returns-clause-gives
returns-clause-gives c items d = drained _ items d
