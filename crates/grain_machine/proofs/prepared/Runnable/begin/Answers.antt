use Rattle.std.proofs.Common.{◌≡◌, ◌+◌, ◌-◌, [], ◌∷◌, ◌++◌, length, refl, ap, arith}
use Rattle.std.proofs.lemmas.List.{length-append}
use Rattle.grain_code.specs.declared.op.Op.TheVariants as ops
use Rattle.grain_machine.specs.Values.{below}
use Rattle.grain_machine.proofs.Keeping.{kept_cut, kept_more, kept_self, length-below}
use Rattle.grain_machine.proofs.Passing.{popped_back, went_on}
use Rattle.std.proofs.lemmas.Result.{on_ok_weaker}
use Rattle.grain_machine.proofs.Stopping.{handlers_of, raised}
use Rattle.grain_machine.proofs.prepared.Runnable.begin.Goals as goal

pub returns-in-Ok-begin-clause-goes : goal.returns-in-Ok-begin-clause-goes
returns-in-Ok-begin-clause-goes g c =
    let r = c.args.self.now in
    let s = c.args.frame.now in
    let xs = s.machine.operands in
    let its = s.machine.iterators in
    let left : length (below 1 xs) ≡ length xs - 1 = length-below 1 xs in
    let begun = its ++ c.in-Ok.iterator ∷ [] in
    let more : length begun ≡ length its + 1 = length-append its (c.in-Ok.iterator ∷ []) in
    rw (c.go.ensures, c.in-Ok-begin.ensures, c.pop-value.ensures.rest)
    (went_on r s ops.IterInit c.args.next c.requires (below 1 xs) begun s.machine.handlers refl (omega arith) (omega arith) refl
    (kept_cut _ (length xs - 1) xs xs (kept_self _ xs)) (kept_more _ its (c.in-Ok.iterator ∷ []) (omega arith)) (λ depth e. absurd (let f : ops.IterInit ≡ ops.Rotate depth = e in cc)))

pub returns-in-Err-clause-goes : goal.returns-in-Err-clause-goes
returns-in-Err-clause-goes g c =
    let r = c.args.self.now in
    let s = c.args.frame.now in
    on_ok_weaker c.raise.result
    (λ l. popped_back r s ops.IterInit c.args.next c.requires c.pop-value.new.self c.raise.new.frame refl refl c.pop-value.ensures.rest l c.raise.ensures.room) c.raise.ensures.lands

pub returns-in-Err-clause-ends : goal.returns-in-Err-clause-ends
returns-in-Err-clause-ends g c =
    raised c.args.self.now c.args.frame.now c.pop-value.new.self ops.IterInit c.args.next c.raise.result c.requires refl (ap handlers_of c.pop-value.ensures.rest) c.raise.ensures.fault
