use Rattle.std.proofs.Common.{◌≡◌, ℕ, ◌<◌, ◌≤◌, Some, slice_get}
use Rattle.grain_rules.specs.Code.{coded}
use Rattle.grain_rules.specs.Layout.{IsBoundary}
use Rattle.grain_rules.specs.Typing.{IsInChunk}
use Rattle.grain_explain.specs.Claimed.{claimed}
use Rattle.grain_explain.specs.declared.row.Row.{Row}
use Rattle.grain_explain.proofs.claim.Claim.check_places.Given as goal

abbrev pub invariant-loop-row : goal.invariant-loop-row
invariant-loop-row g l = record {
  boundary : IsBoundary l.self.code.now l.boundary;
  below : (k : ℕ) (r : Row) → l.row ≤ k → slice_get l.self.rows.now k ≡ Some r → l.self.chunk.now.entry ≤ r.at → l.boundary ≤ r.at;
  before_end : IsBoundary l.self.code.now l.self.chunk.now.end → l.boundary ≤ l.self.chunk.now.end;
  placed : (k : ℕ) (r : Row) → k < l.row → slice_get l.self.rows.now k ≡ Some r → IsInChunk (coded (claimed g.P.Read.facts g.P.Read.leads l.self).code) l.self.chunk.now r.at;
}
