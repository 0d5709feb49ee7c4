use Rattle.std.proofs.Common.{◌≡◌, drop}
use Rattle.grain_rules.specs.ConstCaps.{items_caps, entries_caps}
use Rattle.grain_rules.proofs.constants.+caps.Given as goal

-- adding what is left gives what adding all of it gives
abbrev pub invariant-add_items-loop-item : goal.invariant-add_items-loop-item
invariant-add_items-loop-item l =
    items_caps l.fn.caps.0 l.items ≡ items_caps l.all.0 (drop l.item-index l.items)

abbrev pub invariant-add_entries-loop-value : goal.invariant-add_entries-loop-value
invariant-add_entries-loop-value l =
    entries_caps l.fn.caps.0 l.entries.entries ≡ entries_caps l.all.0 l.value-iterator
