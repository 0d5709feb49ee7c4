use Rattle.grain_base.proofs.NumberUniqueness.{one_spelling}
use Rattle.grain_base.proofs.laws.no_spelling_begins_another.Goals as goal

pub returns : goal.returns
returns c a b x y m n first second same = let one = one_spelling a b x y m n first second same in (one.0, one.1)
