use Rattle.std.proofs.Common.{length, get_or, sym, subst}
use Rattle.std.proofs.lemmas.Result.{err_from_is_err_and}
use Rattle.std.proofs.lemmas.List.{take_more}
use Rattle.grain_code.specs.declared.op.Op.TheVariants as operations
use Rattle.grain_code.specs.Assembly.{EachWritable}
use Rattle.grain_bytecode.proofs.Flaws.{each_writable_more, field_flaw, first_op, too_long}
use Rattle.grain_bytecode.proofs.assembler.check.Goals as goal

pub returns-in_err-check_length : goal.returns-in_err-check_length
returns-in_err-check_length c =
    let p = err_from_is_err_and c.from_residual.result c.from_residual.ensures.1 in
    rw (p.1, p.2) (too_long c.args.ops.now _ c.in_err-check_length.ensures)

pub loop-at-preserved : goal.loop-at-preserved
loop-at-preserved c =
    let ops = c.args.ops.now in
    let i = c.loop-at.at in
    let nothing = operations.Const 0 in
    subst (EachWritable (length ops)) (sym (take_more ops i nothing c.loop-at-test.true))
    (each_writable_more (length ops) _ (get_or ops i nothing) c.loop-at.invariant c.in_ok-check_op.ensures)

pub returns-in_err-check_op : goal.returns-in_err-check_op
returns-in_err-check_op c =
    let ops = c.args.ops.now in
    let i = c.loop-at.at in
    let p = err_from_is_err_and c.from_residual-in_err-check_op.result c.from_residual-in_err-check_op.ensures.1 in
    rw (p.1, p.2) (field_flaw ops _ c.in_ok-check_length.ensures
    (first_op ops i (operations.Const 0) c.loop-at-test.true c.loop-at.invariant _ c.in_err-check_op.ensures))
