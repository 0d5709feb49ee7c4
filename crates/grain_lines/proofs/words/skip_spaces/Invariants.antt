use Rattle.std.proofs.Common.{◌≡◌, length}
use Rattle.grain_lines.specs.Words.{words}
use Rattle.grain_lines.proofs.words.skip_spaces.Given as goal

abbrev pub invariant-skipping : goal.invariant-skipping
invariant-skipping l = words l.rest ≡ words l.text

abbrev pub decreases-skipping : goal.decreases-skipping
decreases-skipping l = length l.rest
