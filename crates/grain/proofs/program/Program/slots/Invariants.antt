use Rattle.std.proofs.Common.{take}
use Rattle.std.specs.List.{AllZip}
use Rattle.grain_needs.specs.Slots.{AreSlots, root_slots}
use Rattle.grain.proofs.program.Program.slots.Given as goal

abbrev pub invariant-loop-chunk : goal.invariant-loop-chunk
invariant-loop-chunk l = AllZip (AreSlots (root_slots l.self.chains) l.self.code) (take l.chunk-index l.chunk-items) l.slots.items
