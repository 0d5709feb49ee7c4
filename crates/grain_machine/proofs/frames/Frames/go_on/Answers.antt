use Rattle.std.proofs.Common.{◌+◌, ◌-◌, ◌≤◌, length, refl, arith}
use Rattle.grain_machine.specs.Standing.{IsWaiting}
use Rattle.grain_machine.specs.declared.frames.Caller.{Caller}
use Rattle.grain_machine.proofs.Returning.{goes_on_there, ready_there, room_to_go_on, there_to_go_on}
use Rattle.grain_machine.proofs.frames.Frames.go_on.Goals as goal

pub replace_few-requires-clause-there : goal.replace_few-requires-clause-there
replace_few-requires-clause-there g c =
    let f = c.args.self.now in
    let a = c.requires.asking in
    let w : Caller g.row.V.Denot g.row.I.Denot = record { chunk = f.body.chunk; room = f.body.room; frame = f.frame; takes = c.args.takes; next = c.args.behind } in
    let h : IsWaiting f.body.program w = record { op = a.op; at = a.at; gives = a.gives } in
    there_to_go_on f.body.program w h

pub replace_few-requires-clause-room : goal.replace_few-requires-clause-room
replace_few-requires-clause-room g c =
    let f = c.args.self.now in
    let a = c.requires.asking in
    let w : Caller g.row.V.Denot g.row.I.Denot = record { chunk = f.body.chunk; room = f.body.room; frame = f.frame; takes = c.args.takes; next = c.args.behind } in
    let h : IsWaiting f.body.program w = record { op = a.op; at = a.at; gives = a.gives } in
    let l : length w.frame.machine.operands - w.takes + 1 ≤ w.frame.room = room_to_go_on f.body.program w h in
    omega arith

pub returns-clause-standing : goal.returns-clause-standing
returns-clause-standing g c =
    let f = c.args.self.now in
    let a = c.requires.asking in
    let w : Caller g.row.V.Denot g.row.I.Denot = record { chunk = f.body.chunk; room = f.body.room; frame = f.frame; takes = c.args.takes; next = c.args.behind } in
    let h : IsWaiting f.body.program w = record { op = a.op; at = a.at; gives = a.gives } in
    record { program = refl; ready = rw (c.go.ensures, c.replace_few.ensures) (ready_there f.body.program w c.args.value h); waiting = c.requires.standing.waiting }

pub returns-clause-goes : goal.returns-clause-goes
returns-clause-goes g c =
    let f = c.args.self.now in
    let a = c.requires.asking in
    let w : Caller g.row.V.Denot g.row.I.Denot = record { chunk = f.body.chunk; room = f.body.room; frame = f.frame; takes = c.args.takes; next = c.args.behind } in
    let h : IsWaiting f.body.program w = record { op = a.op; at = a.at; gives = a.gives } in
    let goes = goes_on_there f.body.program w c.args.value h in
    rw (c.go.ensures, c.replace_few.ensures)
    (record { goes = record { chunk = refl; moves = goes.goes.0; passes = goes.passes }; callers = refl })
