use Rattle.std.proofs.Common.{◌/◌, ◌%◌}
use Rattle.grain_rules.proofs.PassedBits.{nothing_passed}
use Rattle.grain_rules.proofs.passed.Passed.new.Goals as goal

pub returns-clause-chains : goal.returns-clause-chains
returns-clause-chains g c i has = nothing_passed _ (i / 64) (i % 64) has

pub returns-clause-switches : goal.returns-clause-switches
returns-clause-switches g c i has = nothing_passed _ (i / 64) (i % 64) has
