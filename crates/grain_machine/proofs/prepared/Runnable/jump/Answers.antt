use Rattle.std.proofs.Common.{[], refl, arith}
use Rattle.grain_code.specs.declared.op.Op.TheVariants as ops
use Rattle.grain_rules.proofs.Splits.{in_head}
use Rattle.grain_machine.proofs.Keeping.{kept_self}
use Rattle.grain_machine.proofs.Passing.{went_to}
use Rattle.grain_machine.proofs.prepared.Runnable.jump.Goals as goal

pub returns : goal.returns
returns g c =
    let r = c.args.self.now in
    let s = c.args.frame.now in
    let xs = s.machine.operands in
    let its = s.machine.iterators in
    rw c.go.ensures
    (went_to r s (ops.Jump c.args.target) c.args.next c.requires c.args.target xs its s.machine.handlers refl (in_head _ []) (omega arith) (omega arith) refl refl
    (kept_self _ xs) (kept_self _ its))
