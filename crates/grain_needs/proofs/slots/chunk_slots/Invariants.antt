use Rattle.std.proofs.Common.{◌≤◌}
use Rattle.grain_needs.specs.Slots.{IsSlotCount}
use Rattle.grain_needs.proofs.slots.chunk_slots.Given as goal

abbrev pub invariant-loop-op : goal.invariant-loop-op
invariant-loop-op g l = record {
  counted : IsSlotCount (g.C.ChainSlots.slots l.chains) l.yielded l.slots;
  small : l.slots ≤ 65536;
}
