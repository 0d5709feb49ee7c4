use Rattle.std.proofs.Common.{◌+◌, ◌-◌, ◌≤◌, Some, length, ap, ◌∙◌, arith}
use Rattle.std.proofs.lemmas.List.Elements.{All-pop}
use Rattle.grain_machine.specs.Standing.{IsWaiting, waiting_of}
use Rattle.grain_machine.specs.State.{Runs}
use Rattle.grain_machine.proofs.Calling.{last_called}
use Rattle.grain_machine.proofs.Returning.{given_back, ready_there, room_to_go_on, there_to_go_on}
use Rattle.grain_machine.proofs.frames.Frames.give_back.Goals as goal

pub replace_few-requires-clause-there : goal.replace_few-requires-clause-there
replace_few-requires-clause-there g c =
    let p = c.args.self.now.body.program in
    let w = c.in-Some.caller in
    there_to_go_on p w (All-pop (IsWaiting p) c.args.self.now.callers.items c.pop.new.self.items (Some w) c.in-Some.ensures.items c.requires).1

pub replace_few-requires-clause-room : goal.replace_few-requires-clause-room
replace_few-requires-clause-room g c =
    let p = c.args.self.now.body.program in
    let w = c.in-Some.caller in
    let h = (All-pop (IsWaiting p) c.args.self.now.callers.items c.pop.new.self.items (Some w) c.in-Some.ensures.items c.requires).1 in
    let l : length w.frame.machine.operands - w.takes + 1 ≤ w.frame.room = room_to_go_on p w h in
    omega arith

pub other-body-requires : goal.other-body-requires
other-body-requires g c =
    let p = c.args.self.now.body.program in
    let w = c.in-Some.caller in
    (All-pop (IsWaiting p) c.args.self.now.callers.items c.pop.new.self.items (Some w) c.in-Some.ensures.items c.requires).1.at.runs

pub returns-clause-standing : goal.returns-clause-standing
returns-clause-standing g c =
    let p = c.args.self.now.body.program in
    let w = c.in-Some.caller in
    let h = All-pop (IsWaiting p) c.args.self.now.callers.items c.pop.new.self.items (Some w) c.in-Some.ensures.items c.requires in
    record {
      program = ap (λ (r : Runs). r.program) c.other-body.ensures;
      ready = rw (c.other-body.ensures, c.swap.ensures.x_after, c.go.ensures, c.replace_few.ensures) (ready_there p w c.value_or_unit-given.result h.1);
      waiting = h.0;
    }

pub returns-clause-goes : goal.returns-clause-goes
returns-clause-goes g c =
    let p = c.args.self.now.body.program in
    let w = c.in-Some.caller in
    let h = All-pop (IsWaiting p) c.args.self.now.callers.items c.pop.new.self.items (Some w) c.in-Some.ensures.items c.requires in
    let called = ap waiting_of c.in-Some.ensures.items ∙ last_called c.pop.new.self.items w in
    rw (c.other-body.ensures, c.swap.ensures.x_after, c.go.ensures, c.replace_few.ensures)
    (given_back p w c.args.value c.value_or_unit-given.result (waiting_of c.pop.new.self.items) (waiting_of c.args.self.now.callers.items) h.1 c.value_or_unit-given.ensures called)
