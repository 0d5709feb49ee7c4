use Rattle.std.proofs.Common.{◌≡◌, ◌+◌, ◌-◌, ◌≤◌, length, refl, ap, arith}
use Rattle.grain_code.specs.declared.op.Op.TheVariants as ops
use Rattle.grain_machine.specs.Values.{rotated}
use Rattle.grain_machine.proofs.Keeping.{kept_before, kept_self, length-rotated}
use Rattle.grain_machine.proofs.Passing.{went_on}
use Rattle.grain_machine.proofs.prepared.Runnable.rotate.Goals as goal

pub returns : goal.returns
returns g c =
    let r = c.args.self.now in
    let s = c.args.frame.now in
    let xs = s.machine.operands in
    let its = s.machine.iterators in
    let d = c.args.depth in
    let there : d + 1 ≤ length xs = c.requires.finds.meets.operands in
    let as_many : length (rotated d xs) ≡ length xs = length-rotated d xs there in
    rw (c.go.ensures, c.rotate.ensures)
    (went_on r s (ops.Rotate d) c.args.next c.requires (rotated d xs) its s.machine.handlers refl (omega (arith, as_many, there)) (omega arith) refl
    (kept_before (length xs - (d + 1)) xs _ (omega arith)) (kept_self _ its)
    (λ depth e. let same : d ≡ depth = cc in ap (λ (n : _). rotated n xs) same))
