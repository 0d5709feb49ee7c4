use Rattle.std.proofs.Common.{◌≡◌, ◌-◌, length, refl, arith}
use Rattle.grain_code.specs.declared.op.Op.TheVariants as ops
use Rattle.grain_machine.specs.Values.{below}
use Rattle.grain_machine.proofs.Keeping.{kept_cut, kept_self, length-below}
use Rattle.grain_machine.proofs.Passing.{went_on}
use Rattle.grain_machine.proofs.prepared.Runnable.end.Goals as goal

pub returns : goal.returns
returns g c =
    let r = c.args.self.now in
    let s = c.args.frame.now in
    let xs = s.machine.operands in
    let its = s.machine.iterators in
    let left : length (below 1 its) ≡ length its - 1 = length-below 1 its in
    rw (c.go.ensures, c.end.ensures)
    (went_on r s ops.IterDrop c.args.next c.requires xs (below 1 its) s.machine.handlers refl (omega arith) (omega arith) refl
    (kept_self _ xs) (kept_cut _ (length its - 1) its its (kept_self _ its)) (λ depth e. absurd (let f : ops.IterDrop ≡ ops.Rotate depth = e in cc)))
