-- Which capabilities suffice for what is verified, and which are the least that do.
use Rattle.std.specs.Prelude.{◌≢◌, ℕ, List, []}
use Rattle.std.specs.List.{All}
use Rattle.grain_base.specs.CapBits.{FUNCTION}
use Rattle.grain_code.specs.Disassembly.{IsDisassembly}
use Rattle.grain_code.specs.declared.op.Op.{Op}
use Rattle.grain_rules.specs.Accepted.{ConstantPasses, Input}
use Rattle.grain_rules.specs.Capabilities.{Allows}
use Rattle.grain_rules.specs.Code.{Bytecode}
use Rattle.grain_rules.specs.Rows.{caps_of}
use Rattle.grain_rules.specs.Setting.{with_caps}

-- the same code, for a host with these capabilities
abbrev pub code_under : ℕ → Bytecode → Bytecode
code_under caps code = record { setting = with_caps caps code.setting.facts; bytes = code.bytes; switches = code.switches }

-- the same input, for a host with these capabilities
abbrev pub input_under : ℕ → Input → Input
input_under caps i = record { code = code_under caps i.code; consts = i.consts; functions = i.functions; chunks = i.chunks }

-- these capabilities suffice for each constant, for having functions, and for each instruction, whether a run reaches it or not
pub record Suffice (i : Input) (caps : ℕ) : Type 0 where
  pub constants : All (ConstantPasses caps) i.consts
  pub functions : i.functions ≢ [] → Allows caps FUNCTION
  pub instructions : (items : List (ℕ × Op)) → IsDisassembly 0 i.code.bytes items → All (λ (item : ℕ × Op). Allows caps (caps_of i.code.setting item.1)) items

-- they suffice, and whatever suffices has all of them
pub record AreLeast (i : Input) (caps : ℕ) : Type 0 where
  pub suffice : Suffice i caps
  pub least : (others : ℕ) → Suffice i others → Allows others caps
