-- Code read instruction by instruction.
use Rattle.std.specs.Prelude.{ℕ, ◌≡◌, ◌+◌, ◌++◌, List, [], ◌∷◌, Option, Some, None, drop}
use Rattle.std.specs.List.{flat_map, AllByRecursion}
use Rattle.grain_code.specs.declared.op.Op.{Op}
use Rattle.grain_code.specs.InstructionTable.{spelling, width_of}
use Rattle.grain_code.specs.Split.{Begins, BeginsNone, IsInstruction}
use Rattle.grain_code.specs.Unread.{Unread}

-- One step gives the instruction that comes first, with its address, and leaves what follows it. It gives nothing, and
-- leaves all, if none comes.
abbrev pub StepsOn : Unread → Option (ℕ × Op) → Unread → Type 0
StepsOn old None new = BeginsNone old.bytes × (new ≡ old)
StepsOn old (Some (at, op)) new = (at ≡ old.at) × Begins old.bytes op × (new ≡ record { at = old.at + width_of op; bytes = drop (width_of op) old.bytes })

-- instructions with their addresses, the first of them at an address
abbrev pub placed_from : ℕ → List Op → List (ℕ × Op)
placed_from at [] = []
placed_from at (op ∷ ops) = (at, op) ∷ placed_from (at + width_of op) ops

-- The items are the instructions, with addresses from this one on, of the longest front of the bytes that splits.
abbrev pub IsDisassembly : ℕ → List ℕ → List (ℕ × Op) → Type 0
IsDisassembly at bytes items = (ops : List Op) × (rest : List ℕ) × (items ≡ placed_from at ops) × AllByRecursion IsInstruction ops × (bytes ≡ flat_map spelling ops ++ rest) × BeginsNone rest
