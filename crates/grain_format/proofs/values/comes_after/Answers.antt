use Rattle.std.proofs.Common.{rules}
use Rattle.grain_format.proofs.MapEnd.{last_key_is}
use Rattle.grain_format.proofs.values.comes_after.Goals as goal

pub returns-in-Some : goal.returns-in-Some
returns-in-Some c = rw (last_key_is c.args.entries.now.entries c.in-Some.last.now c.in-Some.field-0-1.now c.in-Some.ensures.last) (search rules)
