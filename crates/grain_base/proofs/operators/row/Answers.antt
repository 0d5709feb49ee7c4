use Rattle.std.proofs.Common.{arith}
use Rattle.grain_base.proofs.OperatorRows.{as_many}
use Rattle.grain_base.proofs.operators.row.Goals as goal

pub bounds-table-from : goal.bounds-table-from
bounds-table-from c = omega (arith, as_many c.table.result.now c.table.ensures, c.from.ensures, c.requires)
