-- What an operation finds lacking.
use Rattle.std.specs.Prelude.{◌≡◌, ◌≢◌, ◌<◌, length}
use Rattle.grain_base.specs.CapBits.{missing}
use Rattle.grain_code.specs.declared.op.Op.{Op}
use Rattle.grain_rules.specs.Capabilities.{Allows}
use Rattle.grain_rules.specs.Counts.{Base, Counts}
use Rattle.grain_rules.specs.Effects.{Meets, handlers_needed, iterators_needed}
use Rattle.grain_rules.specs.Rows.{caps_of, flow_of, gives, needs, takes}
use Rattle.grain_rules.specs.Setting.{Setting}
use Rattle.grain_rules.specs.Sinking.{FallsShortOf, Sinks, Stays}
use Rattle.grain_rules.specs.EffectView.{flow_in, operand_numbers}
use Rattle.grain_rules.specs.declared.effect.Effect.{Effect}
use Rattle.grain_explain.specs.declared.needs.Lack.{Lack}
use Rattle.grain_explain.specs.declared.needs.Lack.TheVariants as lacks

-- all that it asks and needs is there, and it stays above the base of the last handler
pub record HasAll (s : Setting) (op : Op) (c : Counts) : Type 0 where
  pub meets : Meets s op c
  pub allowed : Allows s.caps (caps_of s op)
  pub stays : Stays s op c

-- this is what the operation does to the stacks, and how it is left
pub record DoesTo (s : Setting) (op : Op) (e : Effect) : Type 0 where
  pub numbers : operand_numbers e ≡ (needs s op, takes s op, gives s op)
  pub flow : flow_in e ≡ flow_of op

-- what isn't so: capabilities; if these are there, operands, the iterator or the handler; and where it has all these, that it
-- stays above the base of the last handler
abbrev pub FindsLacking : Setting → Op → Counts → Lack → Type 0
FindsLacking s op c (lacks.Capabilities absent) = (absent.0 ≡ missing s.caps (caps_of s op)) × (absent.0 ≢ 0)
FindsLacking s op c (lacks.Operands need) = Allows s.caps (caps_of s op) × (need ≡ needs s op) × (c.operands < need)
FindsLacking s op c lacks.Iterators = Allows s.caps (caps_of s op) × (c.iterators < iterators_needed op)
FindsLacking s op c lacks.Handlers = Allows s.caps (caps_of s op) × (length c.bases < handlers_needed op)
FindsLacking s op c (lacks.Reserve need have) = Allows s.caps (caps_of s op) × Meets s op c × Sinks s op c need have

-- the stacks fall short of a base: how many are needed, and how many are there
abbrev pub IsReserve : Base → Base → Lack → Type 0
IsReserve base stacks (lacks.Capabilities absent) = ⊥
IsReserve base stacks (lacks.Operands need) = ⊥
IsReserve base stacks lacks.Iterators = ⊥
IsReserve base stacks lacks.Handlers = ⊥
IsReserve base stacks (lacks.Reserve need have) = FallsShortOf base stacks need have
