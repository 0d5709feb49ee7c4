-- Code that is decoded before it runs.
use Rattle.std.specs.Prelude.{◌≡◌, ◌+◌, ℕ, List, Some, length, slice_get}
use Rattle.grain_code.specs.InstructionTable.{width_of}
use Rattle.grain_code.specs.Split.{StandsAt}
use Rattle.grain_code.specs.declared.op.Op.{Op}
use Rattle.grain_rules.specs.Rows.{takes}
use Rattle.grain.specs.Program.{Program, setting_of}
use Rattle.grain_machine.specs.declared.decoded.Decoded.{Decoded}

-- the entry has the operation, how many operands that takes, and the address behind it
pub record IsEntryOf (p : Program) (at : ℕ) (op : Op) (d : Decoded) : Type 0 where
  pub op_is : d.op ≡ op
  pub takes_so : d.takes ≡ takes (setting_of p) op
  pub next_is : d.next ≡ at + width_of op

-- the entry is that of the operation at the address, if one stands there
abbrev pub IsEntryAt : Program → ℕ → Decoded → Type 0
IsEntryAt p at d = (op : Op) → StandsAt p.code at op → IsEntryOf p at op d

-- each address below n has its entry
pub record AreDecoded (p : Program) (n : ℕ) (all : List Decoded) : Type 0 where
  pub each : (at : ℕ) (d : Decoded) → slice_get all at ≡ Some d → IsEntryAt p at d
  pub long : length all ≡ n
