use Rattle.std.proofs.Common.{◌+◌, cond, is_some}
use Rattle.grain_bytecode.proofs.DueEntries.{Skipped}
use Rattle.grain_bytecode.proofs.positions.entry_from.Given as goal

abbrev pub invariant-loop-next : goal.invariant-loop-next
invariant-loop-next l = Skipped l.at l.fn.read l.initial.entries l.next l.entries

abbrev pub decreases-loop-next : goal.decreases-loop-next
decreases-loop-next l = l.entries.count + cond (is_some l.next) 1 0
