use Rattle.grain_pools.proofs.SwitchTargets.{dispatched_offset}
use Rattle.grain_bytecode.proofs.laws.dispatch_follows_its_offsets.Goals as goal

pub returns : goal.returns
returns c offsets t x fits = dispatched_offset offsets t x fits
