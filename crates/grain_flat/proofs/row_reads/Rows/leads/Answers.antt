use Rattle.std.proofs.Common.{rules, ◌≡◌, None, Some, slice_get, sym}
use Rattle.grain_flat.proofs.RowEntries.{leads_past, leads_there}
use Rattle.grain_flat.proofs.row_reads.Rows.leads.Goals as goal

pub returns-in_err-row : goal.returns-in_err-row
returns-in_err-row c =
    let p = c.self.inside.pools in
    let none : slice_get p.switches.now c.args.index ≡ None = search rules in
    rw (c.from_residual.ensures, ← c.self.view_is) (sym (leads_past p.switches.now p.cases.now p.ranges.now c.args.index none))

pub cases_of-requires : goal.cases_of-requires
cases_of-requires c =
    let there : slice_get c.self.inside.pools.switches.now c.args.index ≡ Some c.in_ok-row.row.now = search rules in
    rw (← c.self.view_is) there

pub ranges_of-requires : goal.ranges_of-requires
ranges_of-requires c =
    let there : slice_get c.self.inside.pools.switches.now c.args.index ≡ Some c.in_ok-row.row.now = search rules in
    rw (← c.self.view_is) there

pub returns : goal.returns
returns c =
    let there : slice_get c.self.inside.pools.switches.now c.args.index ≡ Some c.in_ok-row.row.now = search rules in
    let p = c.args.self.now in
    sym (leads_there p.switches.now p.cases.now _ p.ranges.now _ c.args.index c.in_ok-row.row.now (rw (← c.self.view_is) there) c.cases_of.ensures c.ranges_of.ensures)
