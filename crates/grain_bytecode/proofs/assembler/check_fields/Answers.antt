use Rattle.std.proofs.lemmas.Result.{err_from_is_err_and}
use Rattle.grain_bytecode.proofs.Flaws.{first_at}
use Rattle.grain_bytecode.proofs.assembler.check_fields.Goals as goal

pub returns-in_err-check_field : goal.returns-in_err-check_field
returns-in_err-check_field c =
    let p = err_from_is_err_and c.from_residual.result c.from_residual.ensures.1 in
    rw (p.1, p.2) (first_at c.args.count c.args.at c.loop-field.field-index c.args.fields.now _ c.loop-field-test.true c.loop-field.invariant _ c.in_err-check_field.ensures)
