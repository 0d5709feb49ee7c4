use Rattle.std.proofs.Common.{◌≡◌}
use Rattle.grain_base.specs.AddressTable.{site_at}
use Rattle.grain_base.proofs.Entries.{front}
use Rattle.grain_base.proofs.AllEntries.{left}
use Rattle.grain_base.proofs.pos.resolve.Given as goal

abbrev pub invariant-loop-here : goal.invariant-loop-here
invariant-loop-here l = (goal.iterator-loop-here).can_next l.here-iterator × (goal.iterator-loop-here).is_finite l.here-iterator × (site_at (left l.here-iterator) l.address ≡ site_at (front l.table) l.address)
