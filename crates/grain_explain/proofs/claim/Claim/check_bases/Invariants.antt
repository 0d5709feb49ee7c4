use Rattle.std.proofs.Common.{ℕ, ◌<◌, ◌≤◌, slice_index_or}
use Rattle.grain_explain.specs.RowView.{no_base}
use Rattle.grain_explain.proofs.claim.Claim.check_bases.Given as goal

abbrev pub invariant-loop-base : goal.invariant-loop-base
invariant-loop-base g l = (k : ℕ) → k < l.base → (slice_index_or l.self.bases.now k no_base).next ≤ k
