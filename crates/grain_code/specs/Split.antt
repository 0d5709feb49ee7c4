-- Code as instructions, one after another.
use Rattle.std.specs.Prelude.{ℕ, ◌≡◌, ◌+◌, ◌<◌, ◌⊎◌, List, [], ◌∷◌, take, drop, length, Result, Ok, Err}
use Rattle.std.specs.List.{flat_map, AllByRecursion, Contains}
use Rattle.grain_code.specs.declared.op.Op.{Op}
use Rattle.grain_code.specs.InstructionTable.{spelling, width_of, Instr}

-- the bytes begin with this instruction
abbrev pub Begins : List ℕ → Op → Type 0
Begins bytes op = Instr (take (width_of op) bytes) op

-- the bytes begin with no instruction
abbrev pub BeginsNone : List ℕ → Type 0
BeginsNone bytes = (op : Op) → Begins bytes op → ⊥

-- this instruction stands at an address of the code
abbrev pub StandsAt : List ℕ → ℕ → Op → Type 0
StandsAt code at op = Begins (drop at code) op

-- no instruction stands at an address of the code
abbrev pub NoneStandsAt : List ℕ → ℕ → Type 0
NoneStandsAt code at = BeginsNone (drop at code)

-- some bytes are this instruction
abbrev pub IsInstruction : Op → Type 0
IsInstruction op = Instr (spelling op) op

-- the bytes are these instructions, one after another
pub record AreInstructions (bytes : List ℕ) (ops : List Op) : Type 0 where
  pub each : AllByRecursion IsInstruction ops
  pub whole : bytes ≡ flat_map spelling ops

-- where instructions begin, the first of them at an address
abbrev pub starts_from : ℕ → List Op → List ℕ
starts_from at [] = []
starts_from at (op ∷ ops) = at ∷ starts_from (at + width_of op) ops

-- the code is instructions, which begin at just these addresses
abbrev pub Split : List ℕ → List ℕ → Type 0
Split code starts = (ops : List Op) × AreInstructions code ops × (starts ≡ starts_from 0 ops)

-- a start of an instruction, or the end of the code
abbrev pub IsSplitBoundary : List ℕ → List ℕ → ℕ → Type 0
IsSplitBoundary code starts at = Contains starts at ⊎ (at ≡ length code)

-- the longest front of the code that splits ends at this address
abbrev pub FrontEnds : List ℕ → ℕ → Type 0
FrontEnds code at = (starts : List ℕ) × Split (take at code) starts × NoneStandsAt code at

-- how many instructions the whole code is, or else where its longest front that splits ends
abbrev pub IsCount : List ℕ → Result ℕ ℕ → Type 0
IsCount code (Ok count) = (starts : List ℕ) × Split code starts × (length starts ≡ count)
IsCount code (Err at) = (at < length code) × FrontEnds code at
