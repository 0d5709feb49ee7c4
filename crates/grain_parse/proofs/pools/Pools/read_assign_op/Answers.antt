use Rattle.std.proofs.Common.{Global, String, Vec, ap}
use Rattle.grain_pools.specs.declared.assign_op.AssignOp.{AssignOp}
use Rattle.grain_parse.proofs.MadeAssignOps.{assign_op_entered}
use Rattle.grain_parse.proofs.pools.Pools.read_assign_op.Goals as goal

pub returns-in-Some-2 : goal.returns-in-Some-2
returns-in-Some-2 c =
    assign_op_entered c.args.cursor.now.left.now c.index.new.self.left.now c.in_ok-spelling.spelling.now c.spelling.new.self.left.now c.in-Some-2.assign_op
    c.plain_assign_op.new.self.names.items c.assign_op_index.new.self.names.items c.args.self.now.assign_ops.items c.plain_assign_op.new.self.assign_ops.items c.assign_op_index.new.self.assign_ops.items
    c.assign_op_index.result (rw c.in_default.is at c.in_ok-index.ensures) c.in_ok-spelling.ensures (rw c.in-Some-2.is at c.in_ok-assign_op.ensures.made)
    (ap (λ (v : Vec (String Global) Global). v.items) c.assign_op_index.ensures.names) (ap (λ (v : Vec AssignOp Global). v.items) c.plain_assign_op.ensures.assign_ops) c.assign_op_index.ensures.entered
