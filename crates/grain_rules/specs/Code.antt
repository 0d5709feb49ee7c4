-- Operations in their setting.
use Rattle.std.specs.Prelude.{ℕ, List, map}
use Rattle.grain_base.specs.declared.caps.Caps.{Caps}
use Rattle.grain_pools.specs.Dispatch.{arms, arm_targets}
use Rattle.grain_pools.specs.declared.switch.Switch.{Switch}
use Rattle.grain_rules.specs.Layout.{Layout, Coded}
use Rattle.grain_rules.specs.Facts.{Facts, facts_of}
use Rattle.grain_rules.specs.Setting.{Setting, with_caps}
use Rattle.grain_rules.specs.declared.pools.Pools.{Pools}

-- operations at their addresses or indices, and what they are judged against
pub record Code : Type 0 where
  pub setting : Setting
  pub layout : Layout

-- the same of instructions in bytes, with the targets of each switch
pub record Bytecode : Type 0 where
  pub setting : Setting
  pub bytes : List ℕ
  pub switches : List (List ℕ)

abbrev pub coded : Bytecode → Code
coded b = record { setting = b.setting; layout = Coded b.bytes b.switches }

-- where a switch may lead: each case, each range, the default
abbrev pub switch_targets : Switch → List ℕ
switch_targets s = arm_targets (arms s)

-- code with pools of which this is said, and where their switches may lead
abbrev pub bytecode_beside : ℕ → Facts → List (List ℕ) → List ℕ → Bytecode
bytecode_beside caps facts leads bytes = record { setting = with_caps caps facts; bytes = bytes; switches = leads }

abbrev pub bytecode : Caps → Pools → List ℕ → Bytecode
bytecode caps pools bytes = bytecode_beside caps.0 (facts_of pools) (map switch_targets pools.switches.now) bytes
