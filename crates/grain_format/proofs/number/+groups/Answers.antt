use Rattle.grain_format.proofs.Groups.{groups_stop}
use Rattle.grain_format.proofs.number.+groups.Goals as goal

pub returns-in-Err : goal.returns-in-Err
returns-in-Err t c = groups_stop _ _ _ _ _ _ c.in-Some.ensures.cases.0 c.if-byte-lt128.false c.in-Some-checked_sub.ensures c.in-Err.ensures
