use Rattle.std.proofs.Common.{◌≡◌, ◌-◌, [], length, refl, arith}
use Rattle.grain_code.specs.declared.op.Op.TheVariants as ops
use Rattle.grain_machine.specs.Values.{below}
use Rattle.grain_rules.proofs.Splits.{in_head}
use Rattle.grain_machine.proofs.Keeping.{kept_cut, kept_self, length-below}
use Rattle.grain_machine.proofs.Passing.{went_on, went_to}
use Rattle.grain_machine.proofs.prepared.Runnable.quick_jump_if_false.Goals as goal

pub returns-in-Some-false-clause-moves : goal.returns-in-Some-false-clause-moves
returns-in-Some-false-clause-moves g c =
    let r = c.args.self.now in
    let s = c.args.frame.now in
    let xs = s.machine.operands in
    let its = s.machine.iterators in
    let left : length (below 1 xs) ≡ length xs - 1 = length-below 1 xs in
    rw (c.go-in-Some-false.ensures, c.in-Some-false.ensures)
    (went_to r s (ops.JumpIfFalse c.args.target) c.args.next c.requires c.args.target (below 1 xs) its s.machine.handlers refl (in_head _ []) (omega arith) (omega arith) refl refl
    (kept_cut _ (length xs - 1) xs xs (kept_self _ xs)) (kept_self _ its))

pub returns-in-Some-true-clause-moves : goal.returns-in-Some-true-clause-moves
returns-in-Some-true-clause-moves g c =
    let r = c.args.self.now in
    let s = c.args.frame.now in
    let xs = s.machine.operands in
    let its = s.machine.iterators in
    let left : length (below 1 xs) ≡ length xs - 1 = length-below 1 xs in
    rw (c.go.ensures, c.in-Some-true.ensures)
    (went_on r s (ops.JumpIfFalse c.args.target) c.args.next c.requires (below 1 xs) its s.machine.handlers refl (omega arith) (omega arith) refl
    (kept_cut _ (length xs - 1) xs xs (kept_self _ xs)) (kept_self _ its) (λ depth e. absurd (let f : ops.JumpIfFalse c.args.target ≡ ops.Rotate depth = e in cc)))
