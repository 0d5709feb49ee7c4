-- An operation does the same once its labels are resolved, and leads to what its labels are bound to.
use Rattle.std.proofs.Common.{◌≡◌, ℕ, List, refl}
use Rattle.std.specs.Prelude.{slice_index}
use Rattle.grain_code.specs.declared.op.Op.{Op}
use Rattle.grain_code.specs.declared.op.Op.TheVariants as ops
use Rattle.grain_code.specs.declared.op.Receiver.TheVariants as receiver
use Rattle.grain_rules.specs.Rows.{row}
use Rattle.grain_rules.specs.Setting.{Setting}
use Rattle.grain_rules.proofs.FlowsAlong.{IsAlong, flow_along}
use Rattle.grain_builder.specs.Resolved.{resolved_op}

same_row : (targets : List ℕ) (op : Op) (s : Setting) → row s (resolved_op targets op) ≡ record (row s op) { flow = flow_along (slice_index targets) (row s op).flow }
same_row targets (ops.CallRef n a (receiver.Local slot) capture) s = refl
same_row targets (ops.CallRef n a (receiver.Named m) capture) s = refl
same_row targets (ops.CallRef n a receiver.This capture) s = refl
same_row targets op s = refl

pub along : (targets : List ℕ) (op : Op) → IsAlong (slice_index targets) op (resolved_op targets op)
along targets op = record { row_is = same_row targets op }
