use Rattle.std.proofs.Common.{inr, refl, subst}
use Rattle.grain_base.specs.EntriesLeft.{EntriesLeft}
use Rattle.grain_base.specs.AddressTable.{NoneNext}
use Rattle.grain_base.proofs.pos.walk.EntriesIterator.next.Goals as goal

pub returns-in_default-clause-steps : goal.returns-in_default-clause-steps
returns-in_default-clause-steps c = (inr (subst (λ (left : EntriesLeft). NoneNext left.before left.bytes) c.self.view_is c.in_default.ensures.err), refl)
