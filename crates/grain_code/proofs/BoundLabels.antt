-- Operations whose fields decide their tag, with their labels bound.
use Rattle.std.proofs.Common.{◌≡◌, ℕ, List, Option, Some, None, refl}
use Rattle.grain_code.specs.declared.op.Op.TheVariants as ops
use Rattle.grain_code.specs.InstructionTable.{encoding}
use Rattle.grain_code.specs.Labels.{bound, with_labels_bound}

pub bound_handler : (labels : List ℕ) (target : ℕ) (catch_var : Option ℕ) → encoding (ops.PushHandler (bound labels target) catch_var) ≡ with_labels_bound labels (encoding (ops.PushHandler target catch_var))
bound_handler labels target None = refl
bound_handler labels target (Some n) = refl

pub bound_exit : (labels : List ℕ) (exit : ℕ) (counter : Option ℕ) → encoding (ops.IterNext (bound labels exit) counter) ≡ with_labels_bound labels (encoding (ops.IterNext exit counter))
bound_exit labels exit None = refl
bound_exit labels exit (Some s) = refl
