use Rattle.grain_rules.proofs.Bodies.{switch_inside}
use Rattle.grain_rules.proofs.laws.switches_lead_inside.Goals as goal

pub returns : goal.returns
returns c = switch_inside
