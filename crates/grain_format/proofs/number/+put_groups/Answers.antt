use Rattle.grain_format.proofs.Groups.{groups_pushed}
use Rattle.grain_format.proofs.number.+put_groups.Goals as goal

pub returns : goal.returns
returns t c = groups_pushed _ _ _ _ _ _ c.in_ok-put_groups.ensures c.in_ok-push-3.ensures.items c.in-Some.ensures c.if-n-lt128.false
