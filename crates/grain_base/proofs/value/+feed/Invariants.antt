use Rattle.std.proofs.Common.{◌≡◌, fold, drop}
use Rattle.grain_base.specs.Content.{items_writes, entries_writes}
use Rattle.grain_base.specs.View.{items_content, entries_content}
use Rattle.grain_base.proofs.value.+feed.Given as goal

-- what is left to feed ends in the state that all of it ends in
abbrev pub invariant-feed_entries-loop-key : goal.invariant-feed_entries-loop-key
invariant-feed_entries-loop-key g l =
    fold g.H.Hasher.write l.state (entries_writes (entries_content l.key-iterator))
    ≡ fold g.H.Hasher.write l.initial.state (entries_writes (entries_content l.entries.entries))

abbrev pub invariant-feed_items-loop-item : goal.invariant-feed_items-loop-item
invariant-feed_items-loop-item g l =
    fold g.H.Hasher.write l.state (items_writes (items_content (drop l.item-index l.items)))
    ≡ fold g.H.Hasher.write l.initial.state (items_writes (items_content l.items))
