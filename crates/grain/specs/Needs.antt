-- The slots that the chunks of a program use.
use Rattle.std.specs.Prelude.{ℕ, List}
use Rattle.std.specs.List.{AllZip}
use Rattle.grain_needs.specs.Slots.{AreSlots, root_slots}
use Rattle.grain.specs.Program.{Program, chunks_of}

-- the number of slots of each chunk, the main one first
abbrev pub AreSlotCounts : Program → List ℕ → Type 0
AreSlotCounts p slots = AllZip (AreSlots (root_slots p.chains) p.code) (chunks_of p) slots
