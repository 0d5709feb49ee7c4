use Rattle.std.proofs.Common.{rules, ◌≡◌, ◌≤◌, length, Some, slice_get, arith}
use Rattle.std.proofs.lemmas.Option.{slice_get_within}
use Rattle.grain_flat.proofs.RowEntries.{leads_long, otherwise_led}
use Rattle.grain_flat.proofs.row_reads.RowsRead.default_target.Goals as goal

pub returns-in-Some-clause-some : goal.returns-in-Some-clause-some
returns-in-Some-clause-some c =
    let p = c.self.inside.pools in
    let there : slice_get p.switches.now c.args.switch ≡ Some c.in-Some.row.now = search rules in
    let long = leads_long p.switches.now p.cases.now p.ranges.now in
    let inside = slice_get_within p.switches.now c.args.switch c.in-Some.row.now there in
    rw (← c.self.view_is) (omega (arith, long, inside), otherwise_led p.switches.now p.cases.now p.ranges.now c.args.switch c.in-Some.row.now there)

pub returns-in-None-clause-none : goal.returns-in-None-clause-none
returns-in-None-clause-none c =
    let p = c.self.inside.pools in
    let past : length p.switches.now ≤ c.args.switch = search rules in
    let long = leads_long p.switches.now p.cases.now p.ranges.now in
    rw (← c.self.view_is) (omega (arith, long, past))
