-- Typings by depth: three counts for each place. Of an armed handler they know that it is there, and not what was on the
-- stacks when it was armed. Nothing is judged by them; a typing is one of them once its lists of bases are replaced by their
-- lengths.
use Rattle.std.specs.Prelude.{◌≡◌, ℕ, ◌+◌, ◌-◌, ◌≤◌, ◌⊎◌, true, length, Option, Some}
use Rattle.std.specs.List.{Contains}
use Rattle.grain_code.specs.Span.{Span}
use Rattle.grain_code.specs.declared.op.Op.{Op}
use Rattle.grain_rules.specs.Capabilities.{Allows}
use Rattle.grain_rules.specs.Code.{Code}
use Rattle.grain_rules.specs.Counts.{Counts, nothing}
use Rattle.grain_rules.specs.Effects.{falls_through, handlers_needed, iterators_needed, operands_after, targets}
use Rattle.grain_rules.specs.Flow as flows
use Rattle.grain_rules.specs.Flow.{Flow}
use Rattle.grain_rules.specs.Rows.{caps_of, flow_of, needs}
use Rattle.grain_rules.specs.Layout.{Reads, next, switches}
use Rattle.grain_rules.specs.Typing.{StandsIn}

-- how many operands and iterators there are, and how many handlers are armed
pub record Depths : Type 0 where
  pub operands : ℕ
  pub iterators : ℕ
  pub handlers : ℕ

-- the list of bases replaced by its length
abbrev pub depths_of : Counts → Depths
depths_of c = record { operands = c.operands; iterators = c.iterators; handlers = length c.bases }

-- the depths on the edges to the targets of such a flow, if this many operands are left
abbrev pub depths_after_jump : Flow → ℕ → Depths → Depths
depths_after_jump flows.Falls left d = record d { operands = left }
depths_after_jump flows.Ends left d = record d { operands = left }
depths_after_jump (flows.Jumps target) left d = record d { operands = left }
depths_after_jump (flows.Branches target) left d = record d { operands = left }
depths_after_jump (flows.Switches w) left d = record d { operands = left }
depths_after_jump flows.BeginsIterator left d = record d { operands = left }
depths_after_jump (flows.AdvancesIterator exit) left d = record d { iterators = d.iterators - 1 }
depths_after_jump flows.EndsIterator left d = record d { operands = left }
depths_after_jump (flows.PushesHandler target) left d = record d { handlers = d.handlers + 1 }
depths_after_jump flows.PopsHandler left d = record d { operands = left }

-- the depths on the edge to the next operation
abbrev pub depths_after_fall : Flow → ℕ → Depths → Depths
depths_after_fall flows.Falls left d = record d { operands = left }
depths_after_fall flows.Ends left d = record d { operands = left }
depths_after_fall (flows.Jumps target) left d = record d { operands = left }
depths_after_fall (flows.Branches target) left d = record d { operands = left }
depths_after_fall (flows.Switches w) left d = record d { operands = left }
depths_after_fall flows.BeginsIterator left d = record d { operands = left; iterators = d.iterators + 1 }
depths_after_fall (flows.AdvancesIterator exit) left d = record d { operands = d.operands + 1 }
depths_after_fall flows.EndsIterator left d = record d { iterators = d.iterators - 1 }
depths_after_fall (flows.PushesHandler target) left d = record d { handlers = d.handlers + 1 }
depths_after_fall flows.PopsHandler left d = record d { handlers = d.handlers - 1 }

-- a written edge from these depths to those: the operation jumps, or it falls through
abbrev pub DepthEdge : Code → Op → ℕ → Depths → ℕ → Depths → Type 0
DepthEdge code op at d b e =
    (Contains (targets (switches code.layout) op) b × (e ≡ depths_after_jump (flow_of op) (operands_after code.setting op d.operands) d))
    ⊎ ((falls_through op ≡ true) × (b ≡ next code.layout at op) × (e ≡ depths_after_fall (flow_of op) (operands_after code.setting op d.operands) d))

-- depths at a place of the chunk, with which its operation finds what it needs, of the stacks and of the host
pub record PassesByDepth (code : Code) (chunk : Span) (at : ℕ) (d : Depths) (op : Op) : Type 0 where
  pub stands : StandsIn code chunk at op
  pub operands : needs code.setting op ≤ d.operands
  pub iterators : iterators_needed op ≤ d.iterators
  pub handlers : handlers_needed op ≤ d.handlers
  pub allowed : Allows code.setting.caps (caps_of code.setting op)

-- Depths for the places that it covers: the chunk starts with nothing, each covered operation passes, no place is deeper than
-- m, and each written edge leads to the very depths that its place has.
pub record IsDepthTyping (code : Code) (chunk : Span) (m : ℕ) (typing : ℕ → Option Depths) : Type 0 where
  pub entry : typing chunk.entry ≡ Some (depths_of nothing)
  pub shallow : (at : ℕ) (d : Depths) → typing at ≡ Some d → d.operands ≤ m
  pub met : (at : ℕ) (d : Depths) → typing at ≡ Some d → (op : Op) × PassesByDepth code chunk at d op
  pub closed : (at : ℕ) (d : Depths) (op : Op) (b : ℕ) (e : Depths) → typing at ≡ Some d → Reads code.layout at op → DepthEdge code op at d b e → typing b ≡ Some e
