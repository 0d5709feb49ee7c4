use Rattle.std.proofs.Common.{◌≡◌, refl, arith}
use Rattle.grain_code.specs.declared.op.Op.TheVariants as ops
use Rattle.grain_rules.specs.Counts.{without_last}
use Rattle.grain_machine.proofs.Keeping.{kept_self}
use Rattle.grain_machine.proofs.Passing.{went_on}
use Rattle.grain_machine.proofs.prepared.Runnable.disarm.Goals as goal

pub returns : goal.returns
returns g c =
    let r = c.args.self.now in
    let s = c.args.frame.now in
    let xs = s.machine.operands in
    let its = s.machine.iterators in
    rw (c.go.ensures, c.disarm.ensures)
    (went_on r s ops.PopHandler c.args.next c.requires xs its (without_last s.machine.handlers) refl (omega arith) (omega arith) refl (kept_self _ xs) (kept_self _ its)
    (λ depth e. absurd (let f : ops.PopHandler ≡ ops.Rotate depth = e in cc)))
