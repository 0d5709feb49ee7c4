use Rattle.std.proofs.Common.{◌≡◌, length, map, take}
use Rattle.std.specs.List.{AllZip}
use Rattle.grain_needs.specs.Slots.{AreSlots}
use Rattle.grain_flat.specs.Slots.{row_slot}
use Rattle.grain_flat.proofs.slots.write_each.Given as goal

abbrev pub invariant-loop-index : goal.invariant-loop-index
invariant-loop-index l = record {
  long : length l.slots ≡ length l.chunks;
  counted : AllZip (AreSlots (map row_slot l.chains.rows.now) l.code) (take l.index l.chunks) (take l.index l.slots);
}
