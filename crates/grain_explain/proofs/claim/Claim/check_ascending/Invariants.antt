use Rattle.std.proofs.Common.{◌≡◌, ℕ, ◌<◌, Some, slice_get}
use Rattle.grain_explain.specs.declared.row.Row.{Row}
use Rattle.grain_explain.proofs.claim.Claim.check_ascending.Given as goal

abbrev pub invariant-loop-row : goal.invariant-loop-row
invariant-loop-row g l = (i j : ℕ) (a b : Row) → i < j → j < l.row → slice_get l.self.rows.now i ≡ Some a → slice_get l.self.rows.now j ≡ Some b → a.at < b.at
