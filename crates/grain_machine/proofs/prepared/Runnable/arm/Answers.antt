use Rattle.std.proofs.Common.{◌≡◌, false, ◌∷◌, length, refl, arith}
use Rattle.grain_code.specs.declared.op.Op.TheVariants as ops
use Rattle.grain_rules.specs.Machine.{Handler}
use Rattle.grain_machine.proofs.Keeping.{kept_self}
use Rattle.grain_machine.proofs.Passing.{went_on}
use Rattle.grain_machine.proofs.prepared.Runnable.arm.Goals as goal

pub returns-in-Ok-clause-goes : goal.returns-in-Ok-clause-goes
returns-in-Ok-clause-goes g c =
    let r = c.args.self.now in
    let s = c.args.frame.now in
    let xs = s.machine.operands in
    let its = s.machine.iterators in
    let armed : Handler = record { target = c.args.target; operands = length xs; iterators = length its; spent = false } in
    rw (c.go.ensures, c.in-Ok.ensures)
    (went_on r s (ops.PushHandler c.args.target c.args.name) c.args.next c.requires xs its (armed ∷ s.machine.handlers) refl (omega arith) (omega arith) refl
    (kept_self _ xs) (kept_self _ its) (λ depth e. absurd (let f : ops.PushHandler c.args.target c.args.name ≡ ops.Rotate depth = e in cc)))
