use Rattle.std.proofs.Common.{◌≡◌, ◌-◌, length, refl, arith}
use Rattle.grain_code.specs.declared.op.Op.TheVariants as ops
use Rattle.grain_machine.specs.Values.{below}
use Rattle.grain_machine.proofs.Keeping.{kept_cut, kept_self, length-below}
use Rattle.grain_machine.proofs.Passing.{went_on}
use Rattle.grain_machine.proofs.prepared.Runnable.quick_pop.Goals as goal

pub returns : goal.returns
returns g c =
    let r = c.args.self.now in
    let s = c.args.frame.now in
    let xs = s.machine.operands in
    let its = s.machine.iterators in
    let left : length (below 1 xs) ≡ length xs - 1 = length-below 1 xs in
    rw (c.go.ensures, c.drop_top.ensures)
    (went_on r s ops.Pop c.args.next c.requires (below 1 xs) its s.machine.handlers refl (omega arith) (omega arith) refl
    (kept_cut _ (length xs - 1) xs xs (kept_self _ xs)) (kept_self _ its) (λ depth e. absurd (let f : ops.Pop ≡ ops.Rotate depth = e in cc)))
