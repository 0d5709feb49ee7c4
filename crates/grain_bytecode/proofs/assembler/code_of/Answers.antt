use Rattle.std.proofs.Common.{◌≡◌, ◌-◌, List, length, take, map, get_or, subst, sym, arith}
use Rattle.std.proofs.lemmas.List.{take_more}
use Rattle.grain_code.specs.declared.op.Op.{Op}
use Rattle.grain_code.specs.declared.op.Op.TheVariants as operations
use Rattle.grain_code.specs.InstructionTable.{form}
use Rattle.grain_code.specs.Split.{AreInstructions}
use Rattle.grain_code.specs.Assembly.{assembled, AreWritable}
use Rattle.grain_code.proofs.OperationPlaces.{one_more_written}
use Rattle.grain_bytecode.proofs.Flaws.{writable_at}
use Rattle.grain_bytecode.proofs.assembler.code_of.Goals as goal

pub put-requires-clause-writable : goal.put-requires-clause-writable
put-requires-clause-writable c =
    let ops = c.args.ops.now in
    let count : length ops ≡ length c.args.offsets.now - 1 = omega (arith, c.requires.placed) in
    subst (λ n. AreWritable n (form (get_or ops c.loop-op.op-index (operations.Const 0))).1) count
    (writable_at (length ops) ops c.loop-op.op-index (operations.Const 0) c.loop-op-test.true c.requires.writable)

pub loop-op-preserved : goal.loop-op-preserved
loop-op-preserved c =
    let ops = c.args.ops.now in
    let i = c.loop-op.op-index in
    let op = get_or ops i (operations.Const 0) in
    subst (λ (xs : List Op). AreInstructions c.put.new.code.items (map (assembled c.args.offsets.now) xs)) (sym (take_more ops i (operations.Const 0) c.loop-op-test.true))
    (one_more_written c.args.offsets.now c.put.new.code.items c.loop-op.code.items (take i ops) op c.loop-op.invariant c.in_ok-put.ensures.fits c.in_ok-put.ensures.ok)
