use Rattle.grain_bytecode.proofs.Hexadecimal.{padded_half}
use Rattle.grain_bytecode.proofs.positions.DebugIdDisplay.fmt.Goals as goal

pub returns-clause-writes : goal.returns-clause-writes
returns-clause-writes g c =
    rw (c.in_radix.ensures, c.in_radix-2.ensures, c.laid_out.ensures, c.laid_out-2.ensures, padded_half, padded_half) at c.write.ensures.writes
