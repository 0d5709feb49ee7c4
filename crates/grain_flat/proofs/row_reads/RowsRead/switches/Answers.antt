use Rattle.std.proofs.Common.{sym}
use Rattle.grain_flat.proofs.RowEntries.{cases_long, leads_long}
use Rattle.grain_flat.proofs.row_reads.RowsRead.switches.Goals as goal

pub returns-clause-leads : goal.returns-clause-leads
returns-clause-leads c =
    let p = c.self.inside.pools in
    rw (← c.self.view_is) (sym (leads_long p.switches.now p.cases.now p.ranges.now))

pub returns-clause-facts : goal.returns-clause-facts
returns-clause-facts c =
    let p = c.self.inside.pools in
    rw (← c.self.view_is) (sym (cases_long p.switches.now p.cases.now))
