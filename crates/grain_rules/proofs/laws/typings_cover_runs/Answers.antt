use Rattle.grain_rules.proofs.Law.{typing_covers_run}
use Rattle.grain_rules.proofs.laws.typings_cover_runs.Goals as goal

pub returns : goal.returns
returns c = typing_covers_run
