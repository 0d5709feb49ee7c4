use Rattle.grain_pools.proofs.SwitchTargets.{dispatched_among}
use Rattle.grain_bytecode.proofs.laws.dispatch_answers_a_target.Goals as goal

pub returns : goal.returns
returns c t x = dispatched_among t x
