use Rattle.std.proofs.Common.{◌≡◌, ◌++◌, map, drop}
use Rattle.std.specs.List.Sorted.{IsStrictlySortedBy}
use Rattle.std.specs.Map.{keys_of}
use Rattle.std.specs.String.{string_cmp}
use Rattle.grain_base.specs.View.{content, entries_content}
use Rattle.grain_format.proofs.copy.+copy.Given as goal

abbrev pub invariant-copy_entries-loop-key : goal.invariant-copy_entries-loop-key
invariant-copy_entries-loop-key l = record {
  copied : entries_content (l.copies.entries ++ l.key-iterator) ≡ entries_content l.entries.entries;
  ordered : IsStrictlySortedBy string_cmp (keys_of (l.copies.entries ++ l.key-iterator));
}

abbrev pub invariant-copy_items-loop-item : goal.invariant-copy_items-loop-item
invariant-copy_items-loop-item l = map content l.copies.items ++ map content (drop l.item-index l.items) ≡ map content l.items
