-- What tags tell of instructions.
use Rattle.std.specs.Prelude.{◌≡◌, ℕ, ◌+◌, ◌≤◌, List, ◌∷◌, true}
use Rattle.grain_code.specs.Flows.{is_fixed}
use Rattle.grain_code.specs.InstructionTable.{form}
use Rattle.grain_code.specs.declared.field.Field.{Field}
use Rattle.grain_code.specs.declared.field.Field.TheVariants.{Target}
use Rattle.grain_code.specs.declared.flow.Flow.{Flow}
use Rattle.grain_code.specs.declared.flow.Flow.TheVariants as ways
use Rattle.grain_code.specs.declared.op.Op.{Op}
use Rattle.grain_code.specs.declared.tag_table.TagRow.{TagRow}
use Rattle.grain_rules.specs.EffectView.{asked_in, flow}
use Rattle.grain_rules.specs.Facts.{Facts}
use Rattle.grain_rules.specs.Flow as flows
use Rattle.grain_rules.specs.Rows.{caps_of, flow_of}
use Rattle.grain_rules.specs.Setting.{Setting}
use Rattle.grain_rules.specs.declared.effect.Effect.{Effect}
use Rattle.grain_verify.specs.Operands.{stack_effect}

-- its needs, what it takes and what it gives are these whatever the pools hold, and it asks nothing of the host
pub record IsFixed (op : Op) (effect : ℕ × ℕ × ℕ) : Type 0 where
  pub operands : (s : Setting) → effect ≡ stack_effect s op
  pub caps : (s : Setting) → caps_of s op ≡ 0

-- it is left by this flow, whose target is its first field
abbrev pub FlowsTo : Op → (ℕ → flows.Flow) → Type 0
FlowsTo op f = (target : ℕ) × (others : List Field) × ((form op).1 ≡ Target target ∷ others) × (flow_of op ≡ f target)

-- the operation is left so
abbrev pub IsLeftBy : Flow → Op → Type 0
IsLeftBy ways.Falls op = flow_of op ≡ flows.Falls
IsLeftBy ways.Ends op = flow_of op ≡ flows.Ends
IsLeftBy ways.Jumps op = FlowsTo op flows.Jumps
IsLeftBy ways.Branches op = FlowsTo op flows.Branches
IsLeftBy ways.Switches op = (index : ℕ) × (flow_of op ≡ flows.Switches index)
IsLeftBy ways.BeginsIterator op = flow_of op ≡ flows.BeginsIterator
IsLeftBy ways.AdvancesIterator op = FlowsTo op flows.AdvancesIterator
IsLeftBy ways.EndsIterator op = flow_of op ≡ flows.EndsIterator
IsLeftBy ways.PushesHandler op = FlowsTo op flows.PushesHandler
IsLeftBy ways.PopsHandler op = flow_of op ≡ flows.PopsHandler

-- what a row of the table of tags says is so of the operation
pub record Tells (row : TagRow) (op : Op) : Type 0 where
  pub left : IsLeftBy row.flow op
  pub fixed : is_fixed row ≡ true → IsFixed op (row.needs, row.takes, row.gives)
  pub plain : row.is_plain ≡ true → (is_fixed row ≡ true) × (flow_of op ≡ flows.Falls)

-- it is what the table says of this tag
pub record IsRowOf (row : TagRow) (tag : ℕ) : Type 0 where
  pub tells : (op : Op) → (form op).0 ≡ tag → Tells row op
  pub there : row.takes ≤ row.needs
  pub by_one : row.gives ≤ row.takes + 1

-- the effect is that of the operation, whatever the pools hold
pub record IsEffectOf (e : Effect) (op : Op) : Type 0 where
  pub operands : (s : Setting) → (e.needs, e.takes, e.gives) ≡ stack_effect s op
  pub asks : (s : Setting) → asked_in s e.asks ≡ caps_of s op
  pub flow_is : flow e.flow e.target ≡ flow_of op

-- the effect is that of the operation, with pools of which this is said
pub record IsEffectIn (facts : Facts) (e : Effect) (op : Op) : Type 0 where
  pub operands : (s : Setting) → s.facts ≡ facts → (e.needs, e.takes, e.gives) ≡ stack_effect s op
  pub asks : (s : Setting) → asked_in s e.asks ≡ caps_of s op
  pub flow_is : flow e.flow e.target ≡ flow_of op
