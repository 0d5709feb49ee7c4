use Rattle.grain_rules.proofs.Law.{reached_is_run, run_passes}
use Rattle.grain_rules.proofs.laws.walks_and_runs.Goals as goal

pub returns-clause-same : goal.returns-clause-same
returns-clause-same c = reached_is_run

pub returns-clause-passes : goal.returns-clause-passes
returns-clause-passes c = run_passes
