-- Operations once their labels are replaced by the operations to which they are bound.
use Rattle.std.specs.Prelude.{ℕ, List, map, slice_index}
use Rattle.grain_code.specs.declared.op.Op.{Op}
use Rattle.grain_code.specs.declared.op.Op.TheVariants as ops

abbrev pub resolved_op : List ℕ → Op → Op
resolved_op targets (ops.Jump l) = ops.Jump (slice_index targets l)
resolved_op targets (ops.JumpIfTrue l) = ops.JumpIfTrue (slice_index targets l)
resolved_op targets (ops.JumpIfFalse l) = ops.JumpIfFalse (slice_index targets l)
resolved_op targets (ops.SkipIfNotUnit l) = ops.SkipIfNotUnit (slice_index targets l)
resolved_op targets (ops.IterNext l counter) = ops.IterNext (slice_index targets l) counter
resolved_op targets (ops.PushHandler l name) = ops.PushHandler (slice_index targets l) name
resolved_op targets op = op

-- the operations to which the labels of each switch are bound
abbrev pub resolved_tables : List ℕ → List (List ℕ) → List (List ℕ)
resolved_tables targets tables = map (map (slice_index targets)) tables
