use Rattle.std.proofs.Common.{◌≡◌, cond, arith, rules}
use Rattle.grain_bytecode.proofs.DueEntries.{abreast_start, abreast_from, abreast_on, place_of_table}
use Rattle.grain_bytecode.proofs.ReadAddresses.{walked_none, walked_more, walk_stops, walk_ends}
use Rattle.grain_bytecode.proofs.positions.place_all.Goals as goal

pub loop-at-init : goal.loop-at-init
loop-at-init c = (walked_none _ _ _ c.requires.sized c.requires.blank, abreast_start _ _ _ _ c.entries-entries.ensures.from_the_start c.next-next.ensures.steps)

pub returns-in_default : goal.returns-in_default
returns-in_default c =
    let one : c.from-matched.result ≡ cond c.place.result 1 0 = search rules in
    let placed = place_of_table _ _ _ _ _ _ _ _ _ c.loop-at.invariant.1 c.entry_from-next.ensures c.place.ensures in
    rw one (walk_stops c.args.table.now c.args.code.now c.loop-at.at c.loop-at.matched _ _ c.place.result c.loop-at.invariant.0 c.loop-at-test.true c.place.auto.positions placed c.in_default.ensures.none)

pub loop-at-preserved : goal.loop-at-preserved
loop-at-preserved c =
    let one : c.from-matched.result ≡ cond c.place.result 1 0 = search rules in
    let placed = place_of_table _ _ _ _ _ _ _ _ _ c.loop-at.invariant.1 c.entry_from-next.ensures c.place.ensures in
    let walked = walked_more c.args.table.now c.args.code.now c.loop-at.at c.loop-at.matched _ _ _ c.place.result c.loop-at.invariant.0 c.loop-at-test.true c.place.auto.positions placed
    c.in-Some.ensures.found c.in-Some.ensures.fits in
    rw one (walked, abreast_on _ c.loop-at.at _ _ _ (omega arith) (abreast_from _ _ _ _ _ _ c.loop-at.invariant.1 c.entry_from-next.ensures))

pub returns : goal.returns
returns c = walk_ends _ _ c.loop-at.at _ _ c.loop-at.invariant.0 (omega arith)
