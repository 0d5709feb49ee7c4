use Rattle.std.proofs.Common.{◌≡◌, drop}
use Rattle.grain_base.specs.Content.{hashable_items, hashable_entries}
use Rattle.grain_base.specs.View.{items_content, entries_content}
use Rattle.grain_base.proofs.value.+hashable.Given as goal

-- what is left to read decides
abbrev pub invariant-are_entries_hashable-loop-value : goal.invariant-are_entries_hashable-loop-value
invariant-are_entries_hashable-loop-value l =
    hashable_entries (entries_content l.entries.entries) ≡ hashable_entries (entries_content l.value-iterator)

abbrev pub invariant-are_hashable-loop-item : goal.invariant-are_hashable-loop-item
invariant-are_hashable-loop-item l =
    hashable_items (items_content l.items) ≡ hashable_items (items_content (drop l.item-index l.items))
