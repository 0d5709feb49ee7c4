use Rattle.grain_bytecode.proofs.Streams.{one_stream}
use Rattle.grain_bytecode.proofs.laws.streams_have_one_list.Goals as goal

pub returns : goal.returns
returns c = one_stream
