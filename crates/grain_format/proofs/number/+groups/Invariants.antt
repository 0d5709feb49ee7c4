use Rattle.std.proofs.Common.{length}
use Rattle.grain_format.proofs.number.+groups.Given as goal

abbrev pub decreases-groups : goal.decreases-groups
decreases-groups l = length l.bytes.now
