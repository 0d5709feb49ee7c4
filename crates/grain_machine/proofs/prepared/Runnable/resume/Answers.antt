use Rattle.std.proofs.Common.{◌≡◌, ◌+◌, ◌<◌, sym, ap, ◌∙◌, subst, refl, arith}
use Rattle.grain.specs.Program.{Program}
use Rattle.grain_machine.specs.Calls.{Turns}
use Rattle.grain_machine.specs.Ends.{StackEnds}
use Rattle.grain_machine.specs.Resting.{GoesOrWaits, IsParked, parked_stack}
use Rattle.grain_machine.specs.Standing.{IsStanding, stack_of}
use Rattle.grain_machine.specs.State.{Runs}
use Rattle.grain_machine.proofs.Pausing.{come_on, come_same, halted, is_held, parked_as, revived_as}
use Rattle.grain_machine.proofs.QuickMoves.{on_false, on_true}
use Rattle.grain_machine.proofs.Returning.{kept_frames}
use Rattle.grain_machine.proofs.prepared.Runnable.resume.Goals as goal

pub turns-init : goal.turns-init
turns-init g c =
    let p = c.args.self.now.program in
    let f = c.revived-frames.result in
    let e = c.revived-frames.ensures in
    let same : parked_stack c.args.run ≡ stack_of f = sym (revived_as p f c.args.run e.runs e.frame e.callers) in
    record {
      standing = e.standing;
      come = λ chunk turns h. come_same p c.args.limits.depth chunk turns (turns + 0) (parked_stack c.args.run) (stack_of f) h (omega arith) same;
    }

pub turns-preserved-then-quick_turn : goal.turns-preserved-then-quick_turn
turns-preserved-then-quick_turn g c =
    let p = c.args.self.now.program in
    let i = c.turns.invariant in
    let s = stack_of c.turns.frames in
    let f = c.quick_turn.new.self in
    let turned = on_true c.quick_turn.result c.if-quick_turn.true c.quick_turn.ensures.goes in
    let goes = subst (λ (q : Program). Turns q c.args.limits.depth s (stack_of f)) i.standing.program (turned c.args.limits.depth) in
    let standing = subst (λ (q : Program). IsStanding q f) i.standing.program c.quick_turn.ensures.standing in
    record {
      standing = standing;
      come = λ chunk turns h. come_on p c.args.limits.depth chunk (turns + c.turns.made) (turns + (c.turns.made + 1)) s (stack_of f) (i.come chunk turns h) goes
          (kept_frames p f standing) (omega arith);
    }

pub turns-preserved : goal.turns-preserved
turns-preserved g c =
    let p = c.args.self.now.program in
    let i = c.turns.invariant in
    let f = c.quick_turn.new.self in
    let t = c.turn.new.self in
    let stays = on_false c.quick_turn.result c.if-quick_turn.false c.quick_turn.ensures.stays in
    let quick = subst (λ (q : Program). IsStanding q f) i.standing.program c.quick_turn.ensures.standing in
    let went : Turns f.body.program c.args.limits.depth (stack_of f) (stack_of t) =
    subst (GoesOrWaits f.body.program c.args.limits.depth f t) c.in-Ok-On.field-0-is c.in-Ok-On.ensures.goes in
    let goes = subst (λ (q : Program). Turns q c.args.limits.depth (stack_of f) (stack_of t)) quick.program went in
    let standing = subst (λ (q : Program). IsStanding q t) quick.program c.in-Ok-On.ensures.standing in
    record {
      standing = standing;
      come = λ chunk turns h. come_on p c.args.limits.depth chunk (turns + c.turns.made) (turns + (c.turns.made + 1)) (stack_of f) (stack_of t)
          (come_same p c.args.limits.depth chunk (turns + c.turns.made) (turns + c.turns.made) (stack_of c.turns.frames) (stack_of f) (i.come chunk turns h) refl (sym stays)) goes
          (kept_frames p t standing) (omega arith);
    }

pub park-frames-requires : goal.park-frames-requires
park-frames-requires g c =
    let standing = c.in-Ok-Waits.ensures.standing in
    subst (λ (q : Program). IsStanding q c.turn.new.self) (sym standing.program) standing

pub park-requires : goal.park-requires
park-requires g c =
    let standing = c.turns.invariant.standing in
    subst (λ (q : Program). IsStanding q c.turns.frames) (sym standing.program) standing

pub returns-in-Ok-Waits-clause-resumable : goal.returns-in-Ok-Waits-clause-resumable
returns-in-Ok-Waits-clause-resumable g c =
    let p = c.args.self.now.program in
    let i = c.turns.invariant in
    let f = c.quick_turn.new.self in
    let t = c.turn.new.self in
    let w = c.park-frames.result in
    let e = c.park-frames.ensures in
    let quick = subst (λ (q : Program). IsStanding q f) i.standing.program c.quick_turn.ensures.standing in
    let lent = subst (GoesOrWaits f.body.program c.args.limits.depth f t) c.in-Ok-Waits.field-0-is c.in-Ok-Waits.ensures.goes in
    let program : t.body.program ≡ p = ap (λ (r : Runs). r.program) lent.body ∙ quick.program in
    is_held p f t w c.in-Ok-Waits.takes c.in-Ok-Waits.next quick.program lent e.chunk e.room e.frame e.callers (subst (λ (q : Program). IsParked q w) program e.parked)

pub returns-in-Ok-Waits-clause-goes : goal.returns-in-Ok-Waits-clause-goes
returns-in-Ok-Waits-clause-goes g c = λ chunk turns h.
    let p = c.args.self.now.program in
    let i = c.turns.invariant in
    let f = c.quick_turn.new.self in
    let t = c.turn.new.self in
    let w = c.park-frames.result in
    let e = c.park-frames.ensures in
    let stays = on_false c.quick_turn.result c.if-quick_turn.false c.quick_turn.ensures.stays in
    let quick = subst (λ (q : Program). IsStanding q f) i.standing.program c.quick_turn.ensures.standing in
    let come = come_same p c.args.limits.depth chunk (turns + c.turns.made) (turns + c.turns.made) (stack_of c.turns.frames) (stack_of f) (i.come chunk turns h) refl (sym stays) in
    let lent = subst (GoesOrWaits f.body.program c.args.limits.depth f t) c.in-Ok-Waits.field-0-is c.in-Ok-Waits.ensures.goes in
    let within : c.turns.made < c.args.limits.fuel = omega (arith, c.turns-test.true) in (
      within,
      halted p f t w c.in-Ok-Waits.takes c.in-Ok-Waits.next quick.program lent e.chunk e.room e.frame e.callers c.args.limits.depth chunk (turns + c.turns.made) come,
    )

pub returns-in-Err-clause-goes : goal.returns-in-Err-clause-goes
returns-in-Err-clause-goes g c = λ chunk turns h.
    let p = c.args.self.now.program in
    let i = c.turns.invariant in
    let f = c.quick_turn.new.self in
    let stays = on_false c.quick_turn.result c.if-quick_turn.false c.quick_turn.ensures.stays in
    let quick = subst (λ (q : Program). IsStanding q f) i.standing.program c.quick_turn.ensures.standing in
    let come = come_same p c.args.limits.depth chunk (turns + c.turns.made) (turns + c.turns.made) (stack_of c.turns.frames) (stack_of f) (i.come chunk turns h) refl (sym stays) in
    let ends = subst (λ (q : Program). StackEnds q (stack_of f) c.in-Err.outcome) quick.program c.in-Err.ensures.ends in
    let within : c.turns.made < c.args.limits.fuel = omega (arith, c.turns-test.true) in
    (within, record { stack = stack_of f; reached = come; here = sym c.at-at.ensures; ends = ends })

pub returns-clause-resumable : goal.returns-clause-resumable
returns-clause-resumable g c =
    let i = c.turns.invariant in
    subst (λ (q : Program). IsParked q c.park.result) i.standing.program c.park.ensures.parked

pub returns-clause-goes : goal.returns-clause-goes
returns-clause-goes g c = λ chunk turns h.
    let p = c.args.self.now.program in
    let i = c.turns.invariant in
    let e = c.park.ensures in
    let end = c.turns.auto.made-end in
    let all : turns + c.turns.made ≡ turns + c.args.limits.fuel = omega (arith, c.turns-test.false) in
    come_same p c.args.limits.depth chunk (turns + c.turns.made) (turns + c.args.limits.fuel) (stack_of c.turns.frames) (parked_stack c.park.result) (i.come chunk turns h) all
    (sym (parked_as p c.turns.frames c.park.result e.chunk e.frame e.callers))
