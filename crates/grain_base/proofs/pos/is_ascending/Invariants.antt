use Rattle.grain_base.proofs.KnownSites.{Ascends}
use Rattle.grain_base.proofs.pos.is_ascending.Given as goal

abbrev pub invariant-loop-address : goal.invariant-loop-address
invariant-loop-address l = Ascends l.sites l.address-index l.least
