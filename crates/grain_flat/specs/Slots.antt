-- The slots that the chunks of a flat form use.
use Rattle.std.specs.Prelude.{◌≡◌, ◌==◌, ℕ, ◌++◌, if◌then◌else◌, List, drop, length, take, Option, Some, None}
use Rattle.std.specs.List.{AllZip}
use Rattle.grain_pools.specs.declared.chain.Chain.{Chain}
use Rattle.grain_needs.specs.Slots.{AreSlots, root_slots}
use Rattle.grain_flat.specs.Flat.{AreChains}
use Rattle.grain_flat.specs.declared.records.CChain.{CChain}
use Rattle.grain_flat.specs.declared.records.CProgram.{CProgram}
use Rattle.grain_flat.specs.declared.shapes.TheConstants.{LOCAL}

-- the slot at which a chain with this row begins
abbrev pub row_slot : CChain → Option ℕ
row_slot row = if row.root == LOCAL then Some row.slot else None

-- What is written in the room: the number of slots of each chunk, as far as there is room, with all chains that have these rows. The rest
-- of the room is as it was.
pub record WritesSlots (program : CProgram) (old new : List ℕ) : Type 0 where
  pub found : List ℕ
  pub written : new ≡ found ++ drop (length found) old
  pub counts : (chains : List Chain) → AreChains program.pools.chains.now program.pools.steps.now chains
      → AllZip (AreSlots (root_slots chains) program.code.now) (take (length old) program.chunks.now) found
