use Rattle.std.proofs.Common.{◌≡◌, length}
use Rattle.grain_parse.proofs.draft.positions_of.Given as goal

abbrev pub invariant-loop-at : goal.invariant-loop-at
invariant-loop-at l = length l.list.items ≡ length l.initial.list.items
