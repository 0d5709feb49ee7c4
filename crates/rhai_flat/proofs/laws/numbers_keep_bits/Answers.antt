use Rattle.rhai_flat.proofs.Settled.{keep_bits}
use Rattle.rhai_flat.proofs.laws.numbers_keep_bits.Goals as goal

pub returns : goal.returns
returns c = keep_bits
