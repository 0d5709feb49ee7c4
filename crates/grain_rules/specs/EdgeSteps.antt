-- How the steps of a run and the written edges belong together.
use Rattle.std.specs.Prelude.{◌≡◌, ℕ, List, map}
use Rattle.grain_code.specs.Span.{Span}
use Rattle.grain_code.specs.declared.op.Op.{Op}
use Rattle.grain_rules.specs.Code.{Code}
use Rattle.grain_rules.specs.Counts.{Counts}
use Rattle.grain_rules.specs.Flow.{PushesHandler}
use Rattle.grain_rules.specs.Rows.{flow_of}
use Rattle.grain_rules.specs.Machine.{Handler, Machine, base_of, counts, Steps, Catches, IsKept}
use Rattle.grain_rules.specs.Typing.{Passes, Reached}

-- the counts that stood when a handler was armed outside of which these stand
abbrev pub armed_counts : Handler → List Handler → Counts
armed_counts h outer = record { operands = h.operands; iterators = h.iterators; bases = map base_of outer }

-- the handler was armed by a reached instruction, with the stacks that stood there
pub record IsArmed (code : Code) (chunk : Span) (h : Handler) (outer : List Handler) : Type 0 where
  pub place : ℕ
  pub op : Op
  pub reached : Reached code chunk place (armed_counts h outer)
  pub passes : Passes code chunk place (armed_counts h outer) op
  pub arms : flow_of op ≡ PushesHandler h.target

-- one step leads to the place with these counts
pub record IsEdgeStep (code : Code) (chunk : Span) (m : Machine) (b : ℕ) (d : Counts) : Type 0 where
  pub after : Machine
  pub step : Steps code chunk m after
  pub address : after.address ≡ b
  pub same : counts after ≡ d

-- a step that arms a handler, and then a fault at the next instruction that finds the stacks whole, lead there
pub record IsEdgeCatch (code : Code) (chunk : Span) (m : Machine) (b : ℕ) (d : Counts) : Type 0 where
  pub armed : Machine
  pub arming : Steps code chunk m armed
  pub after : Machine
  pub fault : Catches code chunk armed after
  pub whole_operands : fault.operands_found ≡ armed.operands
  pub whole_iterators : fault.iterators_found ≡ armed.iterators
  pub kept : IsKept fault
  pub address : after.address ≡ b
  pub same : counts after ≡ d
