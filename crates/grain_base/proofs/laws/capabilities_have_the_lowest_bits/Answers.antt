use Rattle.grain_base.proofs.KnownCaps.{all_caps, known_caps}
use Rattle.grain_base.proofs.laws.capabilities_have_the_lowest_bits.Goals as goal

pub returns-clause-all : goal.returns-clause-all
returns-clause-all c = all_caps

pub returns-clause-known : goal.returns-clause-known
returns-clause-known c = known_caps
