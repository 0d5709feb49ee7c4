use Rattle.std.proofs.Common.{◌≡◌, ◌+◌, ◌-◌, ◌≤◌, [], ◌∷◌, ◌++◌, length, refl, arith}
use Rattle.std.proofs.lemmas.List.{length-append}
use Rattle.grain_code.specs.declared.op.Op.TheVariants as ops
use Rattle.grain_machine.specs.State.{state_of}
use Rattle.grain_machine.proofs.Keeping.{kept_more, kept_self}
use Rattle.grain_machine.proofs.Moves.{room_on}
use Rattle.grain_machine.proofs.Passing.{went_on}
use Rattle.grain_machine.proofs.prepared.Runnable.truth.Goals as goal

pub push-requires : goal.push-requires
push-requires g c =
    let s = c.args.frame.now in
    let h : length s.machine.operands - 0 + 1 ≤ s.room = room_on c.args.self.now (state_of s) (ops.Bool c.args.value) c.args.next c.requires refl in omega arith

pub returns : goal.returns
returns g c =
    let r = c.args.self.now in
    let s = c.args.frame.now in
    let xs = s.machine.operands in
    let its = s.machine.iterators in
    let more : length (xs ++ c.args.truth ∷ []) ≡ length xs + 1 = length-append xs (c.args.truth ∷ []) in
    rw (c.go.ensures, c.push.ensures)
    (went_on r s (ops.Bool c.args.value) c.args.next c.requires (xs ++ c.args.truth ∷ []) its s.machine.handlers refl (omega arith) (omega arith) refl
    (kept_more _ xs (c.args.truth ∷ []) (omega arith)) (kept_self _ its) (λ depth e. absurd (let f : ops.Bool c.args.value ≡ ops.Rotate depth = e in cc)))
