use Rattle.grain_rules.proofs.Quiet.{move_from_run}
use Rattle.grain_rules.proofs.laws.moves_elsewhere_are_kept.Goals as goal

pub returns : goal.returns
returns c = move_from_run
