use Rattle.grain_needs.proofs.SlotCounts.{found_below}
use Rattle.grain_needs.proofs.laws.runs_stay_within_slots.Goals as goal

pub returns : goal.returns
returns c code chunk passes chains n counted m run op found slot e = found_below code chunk passes chains n counted m op found slot e
