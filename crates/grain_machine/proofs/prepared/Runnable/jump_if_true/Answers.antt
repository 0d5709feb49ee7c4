use Rattle.std.proofs.Common.{◌≡◌, ◌-◌, [], length, refl, ap, arith}
use Rattle.grain_code.specs.declared.op.Op.TheVariants as ops
use Rattle.grain_machine.specs.Values.{below}
use Rattle.grain_rules.proofs.Splits.{in_head}
use Rattle.grain_machine.proofs.Keeping.{kept_cut, kept_self, length-below}
use Rattle.grain_machine.proofs.Passing.{popped_back, went_on, went_to}
use Rattle.std.proofs.lemmas.Result.{on_ok_weaker}
use Rattle.grain_machine.proofs.Stopping.{handlers_of, raised}
use Rattle.grain_machine.proofs.prepared.Runnable.jump_if_true.Goals as goal

pub returns-in-Ok-true-clause-goes : goal.returns-in-Ok-true-clause-goes
returns-in-Ok-true-clause-goes g c =
    let r = c.args.self.now in
    let s = c.args.frame.now in
    let xs = s.machine.operands in
    let its = s.machine.iterators in
    let left : length (below 1 xs) ≡ length xs - 1 = length-below 1 xs in
    rw (c.go.ensures, c.condition.ensures)
    (went_to r s (ops.JumpIfTrue c.args.target) c.args.next c.requires c.args.target (below 1 xs) its s.machine.handlers refl (in_head _ []) (omega arith) (omega arith) refl refl
    (kept_cut _ (length xs - 1) xs xs (kept_self _ xs)) (kept_self _ its))

pub returns-in-Ok-false-clause-goes : goal.returns-in-Ok-false-clause-goes
returns-in-Ok-false-clause-goes g c =
    let r = c.args.self.now in
    let s = c.args.frame.now in
    let xs = s.machine.operands in
    let its = s.machine.iterators in
    let left : length (below 1 xs) ≡ length xs - 1 = length-below 1 xs in
    rw (c.go-in-Ok-false.ensures, c.condition.ensures)
    (went_on r s (ops.JumpIfTrue c.args.target) c.args.next c.requires (below 1 xs) its s.machine.handlers refl (omega arith) (omega arith) refl
    (kept_cut _ (length xs - 1) xs xs (kept_self _ xs)) (kept_self _ its) (λ depth e. absurd (let f : ops.JumpIfTrue c.args.target ≡ ops.Rotate depth = e in cc)))

pub returns-in-Err-clause-goes : goal.returns-in-Err-clause-goes
returns-in-Err-clause-goes g c =
    let r = c.args.self.now in
    let s = c.args.frame.now in
    on_ok_weaker c.raise.result
    (λ l. popped_back r s (ops.JumpIfTrue c.args.target) c.args.next c.requires c.condition.new.self c.raise.new.frame refl refl c.condition.ensures l c.raise.ensures.room) c.raise.ensures.lands

pub returns-in-Err-clause-ends : goal.returns-in-Err-clause-ends
returns-in-Err-clause-ends g c =
    raised c.args.self.now c.args.frame.now c.condition.new.self (ops.JumpIfTrue c.args.target) c.args.next c.raise.result c.requires refl (ap handlers_of c.condition.ensures) c.raise.ensures.fault
