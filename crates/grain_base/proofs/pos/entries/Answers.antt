use Rattle.std.proofs.Common.{refl, rules}
use Rattle.grain_base.proofs.Numbers.{begins_at, begins_flawless}
use Rattle.grain_base.proofs.AllEntries.{gives_front, gives_nothing, start_once}
use Rattle.grain_base.proofs.pos.entries.Goals as goal

pub returns-in_default-clause-from_the_start : goal.returns-in_default-clause-from_the_start
returns-in_default-clause-from_the_start c n after begins =
    let error = c.in_default.field-0 in
    absurd (begins_flawless _ n after error begins ((c.in_default.ensures.error error).0 refl))

pub returns-in_default-clause-gives : goal.returns-in_default-clause-gives
returns-in_default-clause-gives c items d =
    let error = c.in_default.field-0 in
    gives_nothing _ _ error items ((c.in_default.ensures.error error).0 refl) d

pub returns-clause-from_the_start : goal.returns-clause-from_the_start
returns-clause-from_the_start c n after begins =
    start_once _ _ n _ after (begins_at _ 0 _ _ c.in-Ok.ensures.found (search rules)) begins

pub returns-clause-gives : goal.returns-clause-gives
returns-clause-gives c items d = gives_front _ _ _ items (begins_at _ 0 _ _ c.in-Ok.ensures.found (search rules)) d
