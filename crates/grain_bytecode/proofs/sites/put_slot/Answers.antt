use Rattle.grain_bytecode.proofs.SlotStreams.{appends_two}
use Rattle.grain_bytecode.proofs.sites.put_slot.Goals as goal

pub returns : goal.returns
returns c =
    rw (← c.line.ensures.value, ← c.position.ensures.value, ← c.unwrap_or-line.ensures, ← c.unwrap_or-column.ensures)
    (record { ok = appends_two _ _ _ _ _ c.in_ok-put_u64.ensures.ok c.in_ok-put_u64-2.ensures.ok })
