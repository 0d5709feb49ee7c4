use Rattle.std.proofs.Common.{rules}
use Rattle.grain_base.proofs.NumberUniqueness.{zigzag_even, zigzag_odd, zigzag_spelled}
use Rattle.grain_base.proofs.varint.i64.Goals as goal

pub returns-then-raw-eq0-clause-found : goal.returns-then-raw-eq0-clause-found
returns-then-raw-eq0-clause-found c = rw (zigzag_even c.in_ok-raw.raw (search rules) c.if-raw-eq0.true) c.in_ok-raw.ensures.found

pub returns-then-raw-eq0-clause-spelled : goal.returns-then-raw-eq0-clause-spelled
returns-then-raw-eq0-clause-spelled c v end standing = zigzag_spelled _ _ _ _ _ _ (returns-then-raw-eq0-clause-found c) standing

pub returns-else-raw-eq0-clause-found : goal.returns-else-raw-eq0-clause-found
returns-else-raw-eq0-clause-found c = rw (zigzag_odd c.in_ok-raw.raw (search rules) c.if-raw-eq0.false) c.in_ok-raw.ensures.found

pub returns-else-raw-eq0-clause-spelled : goal.returns-else-raw-eq0-clause-spelled
returns-else-raw-eq0-clause-spelled c v end standing = zigzag_spelled _ _ _ _ _ _ (returns-else-raw-eq0-clause-found c) standing
