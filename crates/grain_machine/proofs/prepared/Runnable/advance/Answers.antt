use Rattle.std.proofs.Common.{◌≡◌, ◌+◌, ◌-◌, ◌≤◌, [], ◌∷◌, ◌++◌, length, refl, ap, arith}
use Rattle.std.proofs.lemmas.List.{length-append}
use Rattle.grain_code.specs.declared.op.Op.TheVariants as ops
use Rattle.grain_rules.proofs.Splits.{in_head}
use Rattle.grain_machine.specs.State.{state_of}
use Rattle.grain_machine.specs.Values.{below}
use Rattle.grain_machine.proofs.Keeping.{kept_before, kept_cut, kept_more, kept_self, length-below, length-replaced}
use Rattle.grain_machine.proofs.Moves.{room_on}
use Rattle.grain_machine.proofs.Passing.{advanced_back, went_on, went_to}
use Rattle.std.proofs.lemmas.Result.{on_ok_weaker}
use Rattle.grain_machine.proofs.Stopping.{handlers_of, raised}
use Rattle.grain_machine.proofs.prepared.Runnable.advance.Goals as goal

pub push-requires : goal.push-requires
push-requires g c =
    let r = c.args.self.now in
    let s = c.args.frame.now in
    rw c.advance.ensures.1
    (let h : length s.machine.operands + 1 ≤ s.room = room_on r (state_of s) (ops.IterNext c.args.exit c.args.counter) c.args.next c.requires refl in omega arith)

pub returns-in-Ok-Some-clause-goes : goal.returns-in-Ok-Some-clause-goes
returns-in-Ok-Some-clause-goes g c =
    let r = c.args.self.now in
    let s = c.args.frame.now in
    let xs = s.machine.operands in
    let its = s.machine.iterators in
    let item = c.in-Ok-Some.item in
    let on = c.advance.ensures.0 in
    let there : 1 ≤ length its = c.requires.finds.meets.iterators in
    let more : length (xs ++ item ∷ []) ≡ length xs + 1 = length-append xs (item ∷ []) in
    let as_many : length (below 1 its ++ on ∷ []) ≡ length its - 1 + 1 = length-replaced 1 its (on ∷ []) in
    rw (c.go.ensures, c.push.ensures, c.advance.ensures.1)
    (went_on r s (ops.IterNext c.args.exit c.args.counter) c.args.next c.requires (xs ++ item ∷ []) (below 1 its ++ on ∷ []) s.machine.handlers refl
    (omega arith) (omega (arith, as_many, there)) refl
    (kept_more _ xs (item ∷ []) (omega arith)) (kept_before (length its - 1) its (on ∷ []) (omega arith)) (λ depth e. absurd (let f : ops.IterNext c.args.exit c.args.counter ≡ ops.Rotate depth = e in cc)))

pub returns-in-Ok-None-clause-goes : goal.returns-in-Ok-None-clause-goes
returns-in-Ok-None-clause-goes g c =
    let r = c.args.self.now in
    let s = c.args.frame.now in
    let xs = s.machine.operands in
    let its = s.machine.iterators in
    let on = c.advance.ensures.0 in
    let went = below 1 its ++ on ∷ [] in
    let there : 1 ≤ length its = c.requires.finds.meets.iterators in
    let as_many : length went ≡ length its - 1 + 1 = length-replaced 1 its (on ∷ []) in
    let left : length (below 1 went) ≡ length went - 1 = length-below 1 went in
    rw (c.go-in-Ok-None.ensures, c.end.ensures, c.advance.ensures.1)
    (went_to r s (ops.IterNext c.args.exit c.args.counter) c.args.next c.requires c.args.exit xs (below 1 went) s.machine.handlers refl (in_head _ [])
    (omega arith) (omega (arith, as_many, there, left)) refl refl
    (kept_self _ xs) (kept_cut (length its - 1) (length went - 1) its went (kept_before (length its - 1) its (on ∷ []) (omega arith))))

pub returns-in-Err-clause-goes : goal.returns-in-Err-clause-goes
returns-in-Err-clause-goes g c =
    let r = c.args.self.now in
    let s = c.args.frame.now in
    on_ok_weaker c.raise.result
    (λ l. advanced_back r s (ops.IterNext c.args.exit c.args.counter) c.args.next c.requires c.advance.new.self c.raise.new.frame refl refl c.advance.ensures l
    c.raise.ensures.room) c.raise.ensures.lands

pub returns-in-Err-clause-ends : goal.returns-in-Err-clause-ends
returns-in-Err-clause-ends g c =
    raised c.args.self.now c.args.frame.now c.advance.new.self (ops.IterNext c.args.exit c.args.counter) c.args.next c.raise.result c.requires refl
    (ap handlers_of c.advance.ensures.1) c.raise.ensures.fault
