-- What the walks of all chunks know of the code.
use Rattle.std.specs.Prelude.{◌≡◌, ◌<◌, ◌≤◌, ◌∷◌, ℕ, List, length}
use Rattle.grain_code.specs.InstructionTable.{Instr, form, width_of}
use Rattle.grain_code.specs.Split.{Split, StandsAt}
use Rattle.grain_code.specs.declared.instruction.Instruction.{Instruction}
use Rattle.grain_code.specs.declared.op.Op.{Op}
use Rattle.grain_code.specs.declared.tag_widths.Head.{Head}
use Rattle.grain_verify.specs.Arrivals.{view}
use Rattle.grain_rules.specs.Capabilities.{Allows}
use Rattle.grain_rules.specs.Code.{Bytecode}
use Rattle.grain_rules.specs.Rows.{caps_of}
use Rattle.grain_rules.specs.Sinking.{Stays}
use Rattle.grain_verify.specs.TagRows.{IsEffectIn}
use Rattle.grain_rules.specs.declared.effect.Effect.{Effect}
use Rattle.grain_verify.specs.declared.lists.Lists.{Lists}
use Rattle.grain_verify.specs.declared.state.Arrival.{Arrival}

-- the code that is walked, in its setting, and where its instructions begin
pub record Walked : Type 0 where
  pub code : Bytecode
  pub starts : List ℕ

-- the starts are those of the code
pub record IsReady (p : Walked) : Type 0 where
  pub starts : Split p.code.bytes p.starts

-- an instruction stands here that has this head
pub record HasHead (code : List ℕ) (at : ℕ) (head : Head) : Type 0 where
  pub inside : at < length code
  pub op : Op
  pub stands : StandsAt code at op
  pub tag : (form op).0 ≡ head.tag
  pub width : head.width ≡ width_of op

-- The instruction here does this, finds the capabilities and the operands that it needs, and leaves what was on the stacks
-- when the last handler was armed.
pub record IsPassing (p : Walked) (lists : Lists) (here : Arrival) (i : Instruction) (effect : Effect) : Type 0 where
  pub op : Op
  pub stands : StandsAt p.code.bytes here.at op
  pub is : Instr (i.tag ∷ i.fields.now) op
  pub does : IsEffectIn p.code.setting.facts effect op
  pub allowed : Allows p.code.setting.caps (caps_of p.code.setting op)
  pub there : effect.needs ≤ here.state.operands
  pub stays : Stays p.code.setting op (view lists here.state)
