use Rattle.grain_file.proofs.KeptAccepted.{accepted_alike, depths_alike}
use Rattle.grain_file.proofs.laws.files_are_accepted_alike.Goals as goal

pub returns-clause-accepted : goal.returns-clause-accepted
returns-clause-accepted c p q same accepted = accepted_alike p q same accepted

pub returns-clause-depths : goal.returns-clause-depths
returns-clause-depths c p q same depths are = depths_alike p q same depths are
