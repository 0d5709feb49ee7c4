use Rattle.std.proofs.Common.{◌≡◌, ◌+◌, ◌-◌, ◌≤◌, [], ◌∷◌, ◌++◌, length, refl, arith}
use Rattle.std.proofs.lemmas.List.{length-append}
use Rattle.grain_code.specs.declared.op.Op.TheVariants as ops
use Rattle.grain_machine.specs.State.{state_of}
use Rattle.grain_machine.specs.Values.{below}
use Rattle.grain_machine.proofs.Keeping.{kept_before, kept_more, length-replaced}
use Rattle.grain_machine.proofs.Moves.{room_on}
use Rattle.grain_machine.proofs.Passing.{went_on}
use Rattle.grain_machine.proofs.prepared.Runnable.quick_advance.Goals as goal

pub push-requires : goal.push-requires
push-requires g c =
    let r = c.args.self.now in
    let s = c.args.frame.now in
    rw c.in-Some.ensures.1
    (let h : length s.machine.operands + 1 ≤ s.room = room_on r (state_of s) (ops.IterNext c.args.exit c.args.counter) c.args.next c.requires refl in omega arith)

pub returns-in-Some-clause-moves : goal.returns-in-Some-clause-moves
returns-in-Some-clause-moves g c =
    let r = c.args.self.now in
    let s = c.args.frame.now in
    let xs = s.machine.operands in
    let its = s.machine.iterators in
    let item = c.in-Some.item in
    let on = c.in-Some.ensures.0 in
    let there : 1 ≤ length its = c.requires.finds.meets.iterators in
    let more : length (xs ++ item ∷ []) ≡ length xs + 1 = length-append xs (item ∷ []) in
    let as_many : length (below 1 its ++ on ∷ []) ≡ length its - 1 + 1 = length-replaced 1 its (on ∷ []) in
    rw (c.go.ensures, c.push.ensures, c.in-Some.ensures.1)
    (went_on r s (ops.IterNext c.args.exit c.args.counter) c.args.next c.requires (xs ++ item ∷ []) (below 1 its ++ on ∷ []) s.machine.handlers refl
    (omega arith) (omega (arith, as_many, there)) refl
    (kept_more _ xs (item ∷ []) (omega arith)) (kept_before (length its - 1) its (on ∷ []) (omega arith)) (λ depth e. absurd (let f : ops.IterNext c.args.exit c.args.counter ≡ ops.Rotate depth = e in cc)))
