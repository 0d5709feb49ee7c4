use Rattle.std.proofs.Common.{length}
use Rattle.grain_lines.specs.Words.{Skips}
use Rattle.grain_lines.proofs.words.skip_blocks.Given as goal

abbrev pub invariant-skipping : goal.invariant-skipping
invariant-skipping l = Skips l.byte l.text l.rest

abbrev pub decreases-skipping : goal.decreases-skipping
decreases-skipping l = length l.rest
