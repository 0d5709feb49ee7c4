use Rattle.std.proofs.Common.{◌≡◌, length, ap, arith, rules}
use Rattle.std.specs.Prelude.{sum_by}
use Rattle.grain_code.specs.InstructionTable.{size_of}
use Rattle.grain_flat.proofs.FieldSizes.{sizes_of_two, sizes_of_three}
use Rattle.grain_flat.proofs.fields.fields_of.Goals as goal

pub returns-in-Two-clause-width : goal.returns-in-Two-clause-width
returns-in-Two-clause-width c =
    let two : length c.in-Two.fields ≡ 2 = search rules in
    let sizes = sizes_of_two c.in-Two.fields _ _ c.row_of-in-Two.result c.row_of-in-Two-2.result two c.row_of-in-Two.ensures c.row_of-in-Two-2.ensures in
    omega (arith, sizes, ap (sum_by size_of) c.in-Two.ensures)

pub returns-in-Three-clause-width : goal.returns-in-Three-clause-width
returns-in-Three-clause-width c =
    let three : length c.in-Three.fields ≡ 3 = search rules in
    let sizes = sizes_of_three c.in-Three.fields _ _ _ c.row_of-in-Three.result c.row_of-in-Three-2.result c.row_of-in-Three-3.result three
    c.row_of-in-Three.ensures c.row_of-in-Three-2.ensures c.row_of-in-Three-3.ensures in
    omega (arith, sizes, ap (sum_by size_of) c.in-Three.ensures)
