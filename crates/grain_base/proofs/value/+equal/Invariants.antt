use Rattle.std.proofs.Common.{◌≡◌, length}
use Rattle.grain_base.specs.Content.{same_items, same_entries}
use Rattle.grain_base.specs.View.{items_content, entries_content}
use Rattle.grain_base.proofs.value.+equal.Given as goal

-- what is left of both decides, and as much is left of one as of the other
abbrev pub invariant-are_entries_equal-loop-key : goal.invariant-are_entries_equal-loop-key
invariant-are_entries_equal-loop-key l = record {
  same_rest : same_entries (entries_content l.left.entries) (entries_content l.right.entries)
      ≡ same_entries (entries_content l.key-iterator.a) (entries_content l.key-iterator.b);
  same_length : length l.key-iterator.a ≡ length l.key-iterator.b;
}

abbrev pub invariant-are_items_equal-loop-x : goal.invariant-are_items_equal-loop-x
invariant-are_items_equal-loop-x l = record {
  same_rest : same_items (items_content l.left) (items_content l.right)
      ≡ same_items (items_content l.x-iterator.a.rest.now) (items_content l.x-iterator.b.rest.now);
  same_length : length l.x-iterator.a.rest.now ≡ length l.x-iterator.b.rest.now;
}
