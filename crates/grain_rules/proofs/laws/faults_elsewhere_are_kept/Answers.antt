use Rattle.grain_rules.proofs.Quiet.{run_kept}
use Rattle.grain_rules.proofs.laws.faults_elsewhere_are_kept.Goals as goal

pub returns : goal.returns
returns c = run_kept
