use Rattle.grain_rules.proofs.Bodies.{body_whole}
use Rattle.grain_rules.proofs.laws.bodies_are_instructions.Goals as goal

pub returns : goal.returns
returns c = body_whole
