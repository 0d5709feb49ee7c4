use Rattle.std.proofs.Common.{length, ◌-◌}
use Rattle.grain_bytecode.proofs.DueEntries.{Abreast}
use Rattle.grain_bytecode.proofs.ReadAddresses.{Walked}
use Rattle.grain_bytecode.proofs.positions.place_all.Given as goal

-- what is before the address is found, and the entries from it on are ahead
abbrev pub invariant-loop-at : goal.invariant-loop-at
invariant-loop-at l = Walked l.table l.code l.at l.matched l.positions × Abreast l.table l.at l.next l.entries

abbrev pub decreases-loop-at : goal.decreases-loop-at
decreases-loop-at l = length l.code - l.at
