use Rattle.std.proofs.Common.{arith}
use Rattle.grain_base.proofs.Parts.{same_items-lengths, same_entries-lengths}
use Rattle.grain_base.proofs.value.+equal.Goals as goal

pub are_entries_equal-returns-then-len : goal.are_entries_equal-returns-then-len
are_entries_equal-returns-then-len t c = same_entries-lengths c.args.left.now.entries c.args.right.now.entries (omega arith)

pub are_items_equal-returns-then-left-right : goal.are_items_equal-returns-then-left-right
are_items_equal-returns-then-left-right t c = same_items-lengths c.args.left.now c.args.right.now (omega arith)
