use Rattle.std.proofs.Common.{length}
use Rattle.rhai_values.proofs.path.+swapped.Given as goal

abbrev pub decreases-swapped : goal.decreases-swapped
decreases-swapped l = length l.keys.now
