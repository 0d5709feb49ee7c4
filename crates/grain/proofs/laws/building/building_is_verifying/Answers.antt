use Rattle.grain.proofs.BuildAcceptance.{accepted_here, accepted_there, numbers_here, numbers_there}
use Rattle.grain.proofs.laws.building.building_is_verifying.Goals as goal

pub returns-clause-accepted : goal.returns-clause-accepted
returns-clause-accepted h d p lays laid = (accepted_there d p lays laid, accepted_here d p lays laid)

pub returns-clause-deepest : goal.returns-clause-deepest
returns-clause-deepest h d p lays laid numbers = (numbers_there d p lays laid numbers, numbers_here d p lays laid numbers)
