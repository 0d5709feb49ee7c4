use Rattle.std.proofs.Common.{sym}
use Rattle.grain_needs.proofs.SlotCounts.{count_more}
use Rattle.grain_needs.proofs.slots.chunk_slots.Goals as goal

pub loop-op-preserved : goal.loop-op-preserved
loop-op-preserved g c =
    let more = c.slots_with-slots.ensures in
    record {
      counted = count_more (g.C.ChainSlots.slots c.args.chains.now) c.loop-op.yielded (c.in-Some.field-0-0, c.in-Some.op) c.loop-op.slots c.slots_with-slots.result c.loop-op.invariant.counted c.named_slot.result (sym c.named_slot.ensures) more.none more.some;
      small = more.small;
    }
