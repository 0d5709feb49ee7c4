-- Operations that do no more than take some operands and give some.
use Rattle.std.specs.Prelude.{◌≡◌, ⊤, ℕ, ◌+◌, ◌-◌, ◌<◌, ◌≤◌, ◌^◌, List}
use Rattle.grain_code.specs.InstructionTable.{width_of}
use Rattle.grain_code.specs.Split.{StandsAt}
use Rattle.grain_code.specs.declared.op.Op.{Op}
use Rattle.grain_rules.specs.Counts.{last_base}
use Rattle.grain_rules.specs.Flow.{Falls}
use Rattle.grain_rules.specs.Rows.{caps_of, flow_of}
use Rattle.grain_verify.specs.Operands.{stack_effect}
use Rattle.grain_verify.specs.Lists.{list_of}
use Rattle.grain_rules.specs.Setting.{Setting}
use Rattle.grain_rules.specs.Sinking.{ReachesUpTo}
use Rattle.grain_code.specs.declared.flow.Flow.{Flow}
use Rattle.grain_code.specs.declared.flow.Flow.TheVariants as ways
use Rattle.grain_verify.specs.declared.lists.Lists.{Lists}
use Rattle.grain_verify.specs.declared.state.Arrival.{Arrival}
use Rattle.grain_verify.specs.declared.state.State.{State}

-- it asks nothing of the host, and falls through
pub record IsPlain (op : Op) (needs takes gives : ℕ) : Type 0 where
  pub operands : (s : Setting) → (needs, takes, gives) ≡ stack_effect s op
  pub caps : (s : Setting) → caps_of s op ≡ 0
  pub flow : flow_of op ≡ Falls

-- while this many operands stay, the stacks reach up to the base of the last handler
abbrev pub IsFloor : Lists → State → ℕ → Type 0
IsFloor lists s floor = (n : ℕ) → n < 2 ^ 32 → floor ≤ n → ReachesUpTo (last_base (list_of lists s.list)) (record { operands = n; iterators = s.iterators })

-- What is known of the floor of what comes next by such a flow, if this was the floor.
abbrev pub LeavesFloor : Flow → ℕ → Lists → State → Type 0
LeavesFloor ways.Falls floor lists s = ⊤
LeavesFloor ways.Ends floor lists s = ⊤
LeavesFloor ways.Jumps floor lists s = IsFloor lists s floor
LeavesFloor ways.Branches floor lists s = IsFloor lists s floor
LeavesFloor ways.Switches floor lists s = ⊤
LeavesFloor ways.BeginsIterator floor lists s = ⊤
LeavesFloor ways.AdvancesIterator floor lists s = ⊤
LeavesFloor ways.EndsIterator floor lists s = ⊤
LeavesFloor ways.PushesHandler floor lists s = IsFloor lists s s.operands
LeavesFloor ways.PopsHandler floor lists s = ⊤

-- Such a flow goes on, to the next operation or to its target, whatever iterators there are.
abbrev pub GoesOn : Flow → Type 0
GoesOn ways.Falls = ⊤
GoesOn ways.Ends = ⊥
GoesOn ways.Jumps = ⊤
GoesOn ways.Branches = ⊤
GoesOn ways.Switches = ⊥
GoesOn ways.BeginsIterator = ⊤
GoesOn ways.AdvancesIterator = ⊥
GoesOn ways.EndsIterator = ⊥
GoesOn ways.PushesHandler = ⊤
GoesOn ways.PopsHandler = ⊤

-- The plain instruction here finds the operands that it needs, stays above the base of the last handler, and falls through
-- to the next arrival.
pub record IsPlainStep (code : List ℕ) (lists : Lists) (here next : Arrival) : Type 0 where
  pub op : Op
  pub needs : ℕ
  pub takes : ℕ
  pub gives : ℕ
  pub stands : StandsAt code here.at op
  pub plain : IsPlain op needs takes gives
  pub there : needs ≤ here.state.operands
  pub above : ReachesUpTo (last_base (list_of lists here.state.list)) (record { operands = here.state.operands - takes; iterators = here.state.iterators })
  pub is : next ≡ record { at = here.at + width_of op; ordinal = here.ordinal + 1; state = record here.state { operands = here.state.operands - takes + gives } }
