use Rattle.std.proofs.Common.{◌≡◌, ◌+◌, length, take}
use Rattle.std.specs.Prelude.{sum_by}
use Rattle.grain_flat.specs.Work.{spanned}
use Rattle.grain_flat.proofs.work.is_within.Given as goal

abbrev pub invariant-loop-chunk : goal.invariant-loop-chunk
invariant-loop-chunk l = sum_by (spanned (length l.code)) (take l.chunk-index l.chunks) + l.left ≡ l.limit
