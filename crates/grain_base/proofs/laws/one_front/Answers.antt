use Rattle.grain_base.proofs.Entries.{front_once}
use Rattle.grain_base.proofs.laws.one_front.Goals as goal

pub returns : goal.returns
returns c = front_once
