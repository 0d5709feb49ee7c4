use Rattle.std.proofs.Common.{◌≡◌, ◌++◌, List, length, map}
use Rattle.grain_base.specs.AddressTable.{Entry}
use Rattle.grain_base.proofs.Entries.{front}
use Rattle.grain_base.proofs.AllEntries.{left}
use Rattle.grain_flat.specs.Listing.{entry_row, filled}
use Rattle.grain_flat.proofs.listing.list_entries.Given as goal

-- these entries were written, and the others are left
abbrev pub invariant-loop-address : goal.invariant-loop-address
invariant-loop-address l = (goal.iterator-loop-address).can_next l.address-iterator × (goal.iterator-loop-address).is_finite l.address-iterator
    × ((done : List Entry) × (front l.table ≡ done ++ left l.address-iterator) × (l.count ≡ length done) × (l.room ≡ filled (map entry_row done) l.initial.room))
