use Rattle.std.proofs.Common.{◌≡◌, ℕ, ◌<◌, ◌≤◌, Some, length, slice_get}
use Rattle.grain_explain.specs.declared.row.Row.{Row}
use Rattle.grain_explain.proofs.claim.Claim.check_lists.Given as goal

abbrev pub invariant-loop-row : goal.invariant-loop-row
invariant-loop-row g l = (k : ℕ) (r : Row) → k < l.row → slice_get l.self.rows.now k ≡ Some r → r.bases ≤ length l.self.bases.now
