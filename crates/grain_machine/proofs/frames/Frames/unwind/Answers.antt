use Rattle.std.proofs.Common.{◌≡◌, Some, sym, ap, ◌∙◌, subst}
use Rattle.std.proofs.lemmas.List.Elements.{All-pop}
use Rattle.grain_machine.specs.Calls.{catcher}
use Rattle.grain.specs.Program.{Program}
use Rattle.grain_machine.specs.Standing.{IsWaiting, activation_of, runs_of, waiting_of}
use Rattle.grain_machine.specs.State.{IsRunnable, Runs}
use Rattle.grain_machine.proofs.Calling.{last_called, uncaught_first}
use Rattle.grain_machine.proofs.Returning.{caught_by, ready_caught}
use Rattle.grain_machine.proofs.frames.Frames.unwind.Goals as goal

pub other-body-requires : goal.other-body-requires
other-body-requires g c =
    let p = c.args.self.now.body.program in
    let w = c.in-Some.caller in
    let h = All-pop (IsWaiting p) c.callers.self.callers.items c.pop.new.self.items (Some w) c.in-Some.ensures.items c.callers.invariant.waiting in
    subst (λ (q : Program). IsRunnable (record { program = q; chunk = w.chunk; room = w.room })) (sym c.callers.invariant.program) h.1.at.runs

pub returns-in-Ok-clause-standing : goal.returns-in-Ok-clause-standing
returns-in-Ok-clause-standing g c =
    let p = c.args.self.now.body.program in
    let w = c.in-Some.caller in
    let h = All-pop (IsWaiting p) c.callers.self.callers.items c.pop.new.self.items (Some w) c.in-Some.ensures.items c.callers.invariant.waiting in
    let program = ap (λ (r : Runs). r.program) c.other-body.ensures ∙ c.callers.invariant.program in
    let body : c.other-body.result ≡ runs_of p w = c.other-body.ensures ∙ ap (λ (q : Program). let r : Runs = record { program = q; chunk = w.chunk; room = w.room } in r) c.callers.invariant.program in
    record {
      program = program;
      ready = rw body (ready_caught p w c.catch.new.self h.1 c.in-Some-catch.ensures.caught c.in-Some-catch.ensures.room);
      waiting = h.0;
    }

pub returns-in-Ok-clause-caught : goal.returns-in-Ok-clause-caught
returns-in-Ok-clause-caught g c =
    let p = c.args.self.now.body.program in
    let w = c.in-Some.caller in
    let h = All-pop (IsWaiting p) c.callers.self.callers.items c.pop.new.self.items (Some w) c.in-Some.ensures.items c.callers.invariant.waiting in
    let called = ap waiting_of c.in-Some.ensures.items ∙ last_called c.pop.new.self.items w in
    rw c.other-body.ensures
    (caught_by p w c.catch.new.self (waiting_of c.pop.new.self.items) (waiting_of c.args.self.now.callers.items) h.1 c.in-Some-catch.ensures.caught c.in-Some-catch.ensures.room
    (sym c.callers.invariant.same ∙ ap catcher called))

pub callers-preserved : goal.callers-preserved
callers-preserved g c =
    let p = c.args.self.now.body.program in
    let w = c.in-Some.caller in
    let h = All-pop (IsWaiting p) c.callers.self.callers.items c.pop.new.self.items (Some w) c.in-Some.ensures.items c.callers.invariant.waiting in
    let called = ap waiting_of c.in-Some.ensures.items ∙ last_called c.pop.new.self.items w in
    record {
      program = c.callers.invariant.program;
      waiting = h.0;
      same = sym (ap catcher called ∙ uncaught_first (activation_of w) (waiting_of c.pop.new.self.items) c.in-None.ensures.caught) ∙ c.callers.invariant.same;
    }
