use Rattle.grain_bytecode.proofs.ReadAddresses.{one_arrival}
use Rattle.grain_bytecode.proofs.laws.code_is_read_in_one_way.Goals as goal

pub returns : goal.returns
returns c = one_arrival
