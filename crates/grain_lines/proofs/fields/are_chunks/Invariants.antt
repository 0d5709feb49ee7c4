use Rattle.std.proofs.Common.{◌≡◌, length}
use Rattle.std.specs.Prelude.{is_some}
use Rattle.grain_lines.specs.Fields.{chunks_spelled}
use Rattle.grain_lines.specs.Words.{words}
use Rattle.grain_lines.proofs.fields.are_chunks.Given as goal

-- the words before the rest spell chunks
abbrev pub invariant-testing : goal.invariant-testing
invariant-testing l = is_some (chunks_spelled (words l.fields)) ≡ is_some (chunks_spelled (words l.rest))

abbrev pub decreases-testing : goal.decreases-testing
decreases-testing l = length (words l.rest)
