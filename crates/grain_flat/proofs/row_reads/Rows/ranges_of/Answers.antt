use Rattle.std.proofs.Common.{Some, ap, sym, ◌∙◌, arith}
use Rattle.grain_flat.proofs.RowEntries.{arms_begun, ranges_there}
use Rattle.grain_flat.proofs.row_reads.Rows.ranges_of.Goals as goal

pub index-from-requires : goal.index-from-requires
index-from-requires c =
    omega (arith, arms_begun c.self.inside.pools c.self.inside.tables.steps.items c.self.inside.tables.arms.items c.self.invariant c.args.index c.args.row.now (rw (← c.self.view_is) at c.requires))

pub part-requires : goal.part-requires
part-requires c =
    let t = c.self.inside.tables in
    let there = rw (← c.self.view_is) at c.requires in
    (ranges_there c.self.inside.pools t.steps.items t.arms.items c.self.invariant c.args.index c.args.row.now c.index-from.result.now there c.index-from.ensures).within

pub returns : goal.returns
returns c =
    let t = c.self.inside.tables in
    let there = rw (← c.self.view_is) at c.requires in
    let part = ranges_there c.self.inside.pools t.steps.items t.arms.items c.self.invariant c.args.index c.args.row.now c.index-from.result.now there c.index-from.ensures in
    rw (← c.self.view_is) (part.part_is ∙ ap (λ own. Some own) (sym c.part.ensures))
