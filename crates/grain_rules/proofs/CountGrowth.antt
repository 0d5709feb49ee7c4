-- Counts grow by at most one along an edge.
use Rattle.std.proofs.Common.{ℕ, ◌+◌, ◌≤◌, inl, inr, sym, subst, arith}
use Rattle.grain_code.specs.declared.op.Op.{Op}
use Rattle.grain_code.specs.declared.op.Op.TheVariants as ops
use Rattle.grain_code.specs.declared.op.Receiver.TheVariants as receiver
use Rattle.grain_rules.specs.Code.{Code}
use Rattle.grain_rules.specs.Counts.{Counts}
use Rattle.grain_rules.specs.Effects.{Edge, Meets, operands_after}
use Rattle.grain_rules.specs.Flow.{Flow, AdvancesIterator, BeginsIterator, EndsIterator, PopsHandler, PushesHandler}
use Rattle.grain_rules.specs.FlowFields.{fall_for, jump_for}
use Rattle.grain_rules.specs.Rows.{flow_of, gives, needs, takes}
use Rattle.grain_rules.specs.Setting.{Setting}

-- no count is greater
pub record IsSmall (most : ℕ) (c : Counts) : Type 0 where
  pub operands : c.operands ≤ most
  pub iterators : c.iterators ≤ most

-- an operation takes no more than it needs
pub takes_few : (s : Setting) (op : Op) → takes s op ≤ needs s op
takes_few s (ops.CallRef n a (receiver.Local slot) capture) = omega arith
takes_few s ops.InterpolateAppend = omega arith
takes_few s op = omega arith

-- and gives at most one more than it takes
pub gives_few : (s : Setting) (op : Op) → gives s op ≤ takes s op + 1
gives_few s (ops.CallRef n a (receiver.Local slot) capture) = omega arith
gives_few s ops.InterpolateAppend = omega arith
gives_few s op = omega arith

after_few : (s : Setting) (op : Op) (m : ℕ) (c : Counts) → Meets s op c → c.operands ≤ m → operands_after s op c.operands ≤ m + 1
after_few s op m c meets h = let t = takes_few s op in let g = gives_few s op in let n = meets.operands in omega arith

jump_small : (f : Flow) (left m : ℕ) (c : Counts) → left ≤ m + 1 → IsSmall m c → IsSmall (m + 1) (jump_for f left c)
jump_small (AdvancesIterator exit) left m c l h = record { operands = (let k = h.operands in omega arith); iterators = (let k = h.iterators in omega arith) }
jump_small (PushesHandler target) left m c l h = record { operands = (let k = h.operands in omega arith); iterators = (let k = h.iterators in omega arith) }
jump_small f left m c l h = record { operands = l; iterators = (let k = h.iterators in omega arith) }

fall_small : (f : Flow) (left m : ℕ) (c : Counts) → left ≤ m + 1 → IsSmall m c → IsSmall (m + 1) (fall_for f left c)
fall_small BeginsIterator left m c l h = record { operands = l; iterators = (let k = h.iterators in omega arith) }
fall_small EndsIterator left m c l h = record { operands = (let k = h.operands in omega arith); iterators = (let k = h.iterators in omega arith) }
fall_small (AdvancesIterator exit) left m c l h = record { operands = (let k = h.operands in omega arith); iterators = (let k = h.iterators in omega arith) }
fall_small (PushesHandler target) left m c l h = record { operands = (let k = h.operands in omega arith); iterators = (let k = h.iterators in omega arith) }
fall_small PopsHandler left m c l h = record { operands = (let k = h.operands in omega arith); iterators = (let k = h.iterators in omega arith) }
fall_small f left m c l h = record { operands = l; iterators = (let k = h.iterators in omega arith) }

pub edge_small : (code : Code) (op : Op) (at : ℕ) (m : ℕ) (c : Counts) (b : ℕ) (d : Counts) → Meets code.setting op c → IsSmall m c → Edge code op at c b d → IsSmall (m + 1) d
edge_small code op at m c b d meets h (inl j) =
    subst (λ (x : Counts). IsSmall (m + 1) x) (sym j.1) (jump_small (flow_of op) (operands_after code.setting op c.operands) m c (after_few code.setting op m c meets h.operands) h)
edge_small code op at m c b d meets h (inr g) =
    subst (λ (x : Counts). IsSmall (m + 1) x) (sym g.2) (fall_small (flow_of op) (operands_after code.setting op c.operands) m c (after_few code.setting op m c meets h.operands) h)
