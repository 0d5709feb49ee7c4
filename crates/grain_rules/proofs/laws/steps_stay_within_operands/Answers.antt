use Rattle.grain_rules.proofs.ChainTests.{accepted_within}
use Rattle.grain_rules.proofs.laws.steps_stay_within_operands.Goals as goal

pub returns : goal.returns
returns c = accepted_within
