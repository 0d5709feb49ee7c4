-- Where operations are: at addresses, as instructions of code, or at indices, in a list. The list is there so that a program that
-- is built from operations by index is judged by the same definitions.
use Rattle.std.specs.Prelude.{◌≡◌, ◌⊎◌, ℕ, ◌+◌, ◌<◌, List, length, slice_get, Some}
use Rattle.std.specs.List.{Contains}
use Rattle.grain_code.specs.declared.op.Op.{Op}
use Rattle.grain_code.specs.InstructionTable.{width_of}
use Rattle.grain_code.specs.Split as split
use Rattle.grain_code.specs.Split.{Split}

-- the bytes split into instructions, and one of them begins here
pub record IsStart (bytes : List ℕ) (at : ℕ) : Type 0 where
  pub starts : List ℕ
  pub split : Split bytes starts
  pub here : Contains starts at

-- a start, or where the bytes end
abbrev pub IsBoundary : List ℕ → ℕ → Type 0
IsBoundary bytes at = IsStart bytes at ⊎ (at ≡ length bytes)

-- Code or a list of operations, with the targets of each switch: addresses with code, indices with a list.
pub data Layout : Type 0 where
  Coded : (bytes : List ℕ) (switches : List (List ℕ)) → Layout
  Listed : (ops : List Op) (switches : List (List ℕ)) → Layout

-- an operation stands here: an instruction begins at the address, or the index is one of the list
abbrev pub IsPlace : Layout → ℕ → Type 0
IsPlace (Coded bytes switches) at = IsStart bytes at
IsPlace (Listed ops switches) at = at < length ops

-- the operation that is read here
abbrev pub Reads : Layout → ℕ → Op → Type 0
Reads (Coded bytes switches) at op = split.StandsAt bytes at op
Reads (Listed ops switches) at op = slice_get ops at ≡ Some op

-- the place behind it
abbrev pub next : Layout → ℕ → Op → ℕ
next (Coded bytes switches) at op = at + width_of op
next (Listed ops switches) at op = at + 1

-- the targets of each switch
abbrev pub switches : Layout → List (List ℕ)
switches (Coded bytes tables) = tables
switches (Listed ops tables) = tables
