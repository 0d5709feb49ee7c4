-- What is verified, and when it is accepted.
use Rattle.std.specs.Prelude.{◌≡◌, ◌≢◌, ⊤, ℕ, ◌≤◌, List, [], length, map, Option, Some, None}
use Rattle.std.specs.List.{All, AllZip}
use Rattle.grain_base.specs.CapBits.{FUNCTION}
use Rattle.grain_base.specs.declared.caps.Caps.{Caps}
use Rattle.grain_base.specs.declared.value.Dynamic.{Dynamic}
use Rattle.grain_code.specs.Span.{Span}
use Rattle.grain_code.specs.Split.{AreInstructions}
use Rattle.grain_code.specs.declared.op.Op.{Op}
use Rattle.grain_code.specs.declared.function.Function.{Function}
use Rattle.grain_rules.specs.Capabilities.{Allows}
use Rattle.grain_rules.specs.Rows.{caps_of}
use Rattle.grain_rules.specs.Code.{Bytecode, bytecode_beside, coded, switch_targets}
use Rattle.grain_rules.specs.ConstCaps.{const_caps}
use Rattle.grain_rules.specs.Facts.{Facts, facts_of}
use Rattle.grain_rules.specs.Indices.{Indexed}
use Rattle.grain_rules.specs.Layout.{IsStart, IsBoundary}
use Rattle.grain_rules.specs.Setting.{Setting}
use Rattle.grain_rules.specs.Machine.{Machine, Finds, IsKeptRun, IsOnKeptRun, IsRun, MovesKeptAtQuiet}
use Rattle.grain_rules.specs.Typing.{HasTyping, IsDeepest}
use Rattle.grain_rules.specs.declared.pools.Pools.{Pools}

-- what `verify` is given
pub record Input : Type 0 where
  pub code : Bytecode
  pub consts : List Dynamic
  pub functions : List Function
  pub chunks : List Span

-- with pools of which this is said, and where their switches may lead
abbrev pub input_beside : ℕ → List Dynamic → List ℕ → List Function → List Span → Facts → List (List ℕ) → Input
input_beside caps consts bytes functions chunks facts leads = record { code = bytecode_beside caps facts leads bytes; consts = consts; functions = functions; chunks = chunks }

abbrev pub input : Caps → List Dynamic → List ℕ → List Function → List Span → Pools → Input
input caps consts bytes functions chunks pools = input_beside caps.0 consts bytes functions chunks (facts_of pools) (map switch_targets pools.switches.now)

-- the capabilities of a constant, if it has any to name, are there
abbrev pub AllowsConst : ℕ → Option ℕ → Type 0
AllowsConst caps None = ⊤
AllowsConst caps (Some needed) = Allows caps needed

abbrev pub ConstantPasses : ℕ → Dynamic → Type 0
ConstantPasses caps value = AllowsConst caps (const_caps value)

abbrev pub ConstantsPass : Input → Type 0
ConstantsPass i = All (ConstantPasses i.code.setting.caps) i.consts

-- the bytes are instructions, each with its indices in bounds
abbrev pub AreIndexed : Setting → List ℕ → Type 0
AreIndexed setting bytes = (ops : List Op) × AreInstructions bytes ops × All (Indexed setting) ops

abbrev pub CodePasses : Input → Type 0
CodePasses i = AreIndexed i.code.setting i.code.bytes

-- if there are functions, the host allows them
abbrev pub FunctionsPass : Input → Type 0
FunctionsPass i = i.functions ≢ [] → Allows i.code.setting.caps FUNCTION

-- the chunk lies in the code, begins at a start and ends at a boundary
pub record IsFramed (code : Bytecode) (chunk : Span) : Type 0 where
  pub ordered : chunk.entry ≤ chunk.end
  pub inside : chunk.end ≤ length code.bytes
  pub entry : IsStart code.bytes chunk.entry
  pub end : IsBoundary code.bytes chunk.end

-- it is framed, and typed within its declared stack
pub record ChunkPasses (code : Bytecode) (chunk : Span) : Type 0 where
  pub framed : IsFramed code chunk
  pub typed : HasTyping (coded code) chunk chunk.max_stack

-- Each constant's capabilities are there, the code is whole instructions whose indices are in bounds, functions are
-- allowed if there are some, and each chunk passes.
pub record IsAccepted (i : Input) : Type 0 where
  pub constants : ConstantsPass i
  pub code : CodePasses i
  pub functions : FunctionsPass i
  pub chunks : All (ChunkPasses i.code) i.chunks

-- the greatest operand count that is reached, chunk by chunk
abbrev pub AreDeepest : Input → List ℕ → Type 0
AreDeepest i numbers = AllZip (IsDeepest (coded i.code)) i.chunks numbers

-- a typing within its number, chunk by chunk
abbrev pub AreTyped : Input → List ℕ → Type 0
AreTyped i numbers = AllZip (HasTyping (coded i.code)) i.chunks numbers

-- No state of a kept run lacks anything, meets an instruction whose capabilities aren't there, or has more operands than
-- this, and some state has as many. A run is kept if its faults at quiet operations are.
pub record IsSafe (code : Bytecode) (chunk : Span) (n : ℕ) : Type 0 where
  pub finds : (m : Machine) → IsOnKeptRun (coded code) chunk m → (op : Op) × Finds (coded code) chunk m op × Allows code.setting.caps (caps_of code.setting op)
  pub most : (m : Machine) → IsOnKeptRun (coded code) chunk m → m.operands ≤ n
  pub attained : (m : Machine) × IsOnKeptRun (coded code) chunk m × (m.operands ≡ n)
  pub kept : (m : Machine) (earlier : List Machine) → IsRun (MovesKeptAtQuiet (coded code) chunk) chunk m earlier → IsKeptRun (coded code) chunk m earlier

abbrev pub AreSafe : Input → List ℕ → Type 0
AreSafe i numbers = AllZip (IsSafe i.code) i.chunks numbers
