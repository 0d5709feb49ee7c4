use Rattle.std.proofs.Common.{◌≡◌, [], refl, arith}
use Rattle.grain_code.specs.declared.op.Op.TheVariants as ops
use Rattle.grain_rules.proofs.Splits.{in_head}
use Rattle.grain_machine.proofs.Keeping.{kept_self}
use Rattle.grain_machine.proofs.Passing.{went_on, went_to}
use Rattle.grain_machine.proofs.prepared.Runnable.skip.Goals as goal

pub returns-then-is_unit : goal.returns-then-is_unit
returns-then-is_unit g c =
    let r = c.args.self.now in
    let s = c.args.frame.now in
    let xs = s.machine.operands in
    let its = s.machine.iterators in
    rw c.go.ensures
    (went_on r s (ops.SkipIfNotUnit c.args.target) c.args.next c.requires xs its s.machine.handlers refl (omega arith) (omega arith) refl (kept_self _ xs) (kept_self _ its)
    (λ depth e. absurd (let f : ops.SkipIfNotUnit c.args.target ≡ ops.Rotate depth = e in cc)))

pub returns-else-is_unit : goal.returns-else-is_unit
returns-else-is_unit g c =
    let r = c.args.self.now in
    let s = c.args.frame.now in
    let xs = s.machine.operands in
    let its = s.machine.iterators in
    rw c.go-else-is_unit.ensures
    (went_to r s (ops.SkipIfNotUnit c.args.target) c.args.next c.requires c.args.target xs its s.machine.handlers refl (in_head _ []) (omega arith) (omega arith) refl refl
    (kept_self _ xs) (kept_self _ its))
