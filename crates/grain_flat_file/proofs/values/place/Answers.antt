use Rattle.std.proofs.Common.{◌<◌, ◌∙◌, pos, length, arith}
use Rattle.grain_flat_file.proofs.Placing.{placed_next}
use Rattle.grain_flat_file.specs.declared.records.CValue.{CValue}
use Rattle.grain_flat_file.proofs.values.place.Goals as goal

pub loop-row-preserved : goal.loop-row-preserved
loop-row-preserved c =
    let i = c.loop-row.row-index in
    let rows = c.loop-row.rows in
    let none : CValue = record { tag = 0; count = 0; number = pos 0 } in
    let inside : i < length rows = omega arith in
    placed_next rows i c.loop-row.from _ _ none inside c.in_ok-placed.ensures.row c.in_ok-placed.ensures.next ∙ c.loop-row.invariant
