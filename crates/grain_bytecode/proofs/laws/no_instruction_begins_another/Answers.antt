use Rattle.grain_code.proofs.FieldBytes.{one_instruction}
use Rattle.grain_bytecode.proofs.laws.no_instruction_begins_another.Goals as goal

pub returns : goal.returns
returns c = one_instruction
