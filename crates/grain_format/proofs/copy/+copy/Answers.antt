use Rattle.std.proofs.Common.{◌∙◌}
use Rattle.grain_format.proofs.CopiedEntries.{copied}
use Rattle.grain_format.proofs.copy.+copy.Goals as goal

pub copy_entries-loop-key-preserved : goal.copy_entries-loop-key-preserved
copy_entries-loop-key-preserved t c =
    let p = copied c.in-Some.key.now c.in_ok-key.key c.in-Some.value.now c.in_ok-value.value c.loop-key.copies.entries c.put.new.entries.entries c.next.new.self
    (c.in_ok-key.ensures.ok ∙ c.deref.ensures) c.in_ok-value.ensures c.in_ok-put.ensures (rw c.in-Some.ensures.steps at c.loop-key.invariant.ordered) in
    record { copied = p.0 ∙ (rw c.in-Some.ensures.steps at c.loop-key.invariant.copied); ordered = p.1 }
