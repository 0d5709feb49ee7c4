use Rattle.std.proofs.Common.{◌≡◌, ℕ, ◌<◌, Some, slice_get}
use Rattle.grain_explain.specs.Claimed.{IsSound, claimed}
use Rattle.grain_explain.specs.declared.row.Row.{Row}
use Rattle.grain_explain.proofs.claim.Claim.check_rows.Given as goal

abbrev pub invariant-loop-number : goal.invariant-loop-number
invariant-loop-number g l = (k : ℕ) (r : Row) → k < l.number → slice_get l.self.rows.now k ≡ Some r → IsSound (claimed g.P.Read.facts g.P.Read.leads l.self) r
