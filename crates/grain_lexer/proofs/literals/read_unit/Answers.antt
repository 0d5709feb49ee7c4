use Rattle.std.proofs.Common.{◌≢◌, slice_index_or, arith}
use Rattle.grain_lexer.proofs.Fronts.{escaped_unit, plain_unit}
use Rattle.grain_lexer.proofs.literals.read_unit.Goals as goal

pub returns-in_ok-byte-in-92 : goal.returns-in_ok-byte-in-92
returns-in_ok-byte-in-92 c = escaped_unit c.args.quote c.args.cursor.now.left.now _ _ (omega arith) (omega arith) c.in_ok-byte-in-92.ensures

pub returns-else-byte-quote : goal.returns-else-byte-quote
returns-else-byte-quote c =
    let bare : slice_index_or c.args.cursor.now.left.now 0 0 ≢ 92 = omega arith in
    let other : slice_index_or c.args.cursor.now.left.now 0 0 ≢ c.args.quote = omega arith in
    plain_unit c.args.quote c.args.cursor.now.left.now (omega arith) other bare
