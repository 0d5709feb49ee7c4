use Rattle.std.proofs.Common.{length}
use Rattle.grain_lines.specs.Words.{words}
use Rattle.grain_list.proofs.problem.first_no_chunk.Given as goal

abbrev pub decreases-seeking : goal.decreases-seeking
decreases-seeking l = length (words l.rest)
