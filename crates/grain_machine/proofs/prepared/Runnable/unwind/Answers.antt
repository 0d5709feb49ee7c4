use Rattle.std.proofs.Common.{◌≡◌, refl, arith}
use Rattle.grain_code.specs.declared.op.Op.TheVariants as ops
use Rattle.grain_machine.proofs.Keeping.{kept_self}
use Rattle.grain_machine.proofs.Passing.{went_on}
use Rattle.grain_machine.proofs.prepared.Runnable.unwind.Goals as goal

pub returns : goal.returns
returns g c =
    let r = c.args.self.now in
    let s = c.args.frame.now in
    let xs = s.machine.operands in
    let its = s.machine.iterators in
    rw c.go.ensures
    (went_on r s (ops.UnwindTo c.args.depth) c.args.next c.requires xs its s.machine.handlers refl (omega arith) (omega arith) refl (kept_self _ xs) (kept_self _ its)
    (λ depth e. absurd (let f : ops.UnwindTo c.args.depth ≡ ops.Rotate depth = e in cc)))
