use Rattle.std.proofs.Common.{◌+◌, inl, sym, ◌∙◌, subst}
use Rattle.grain.specs.Program.{Program}
use Rattle.grain_machine.specs.Calls.{CallStack}
use Rattle.grain_machine.specs.Resting.{IsParked}
use Rattle.grain_machine.specs.Resuming.{HasReached}
use Rattle.grain_machine.specs.Standing.{IsStanding, stack_of}
use Rattle.grain_machine.proofs.Pausing.{asks_again, halted_on, parked_as}
use Rattle.grain_machine.proofs.Returning.{kept_frames}
use Rattle.grain_machine.proofs.prepared.Runnable.answer.Goals as goal

pub go_on-requires-clause-standing : goal.go_on-requires-clause-standing
go_on-requires-clause-standing g c =
    let standing = c.revived-frames.ensures.standing in
    subst (λ (q : Program). IsStanding q c.revived-frames.result) (sym standing.program) standing

pub go_on-requires-clause-asking : goal.go_on-requires-clause-asking
go_on-requires-clause-asking g c =
    let e = c.revived-frames.ensures in
    asks_again c.args.self.now.program c.args.run c.revived-frames.result e.runs e.frame e.callers c.requires

pub park-requires : goal.park-requires
park-requires g c =
    let standing = c.go_on.ensures.standing in
    subst (λ (q : Program). IsStanding q c.go_on.new.self) (sym standing.program) standing

pub returns-clause-parked : goal.returns-clause-parked
returns-clause-parked g c =
    let program = c.go_on.ensures.standing.program ∙ c.revived-frames.ensures.standing.program in
    subst (λ (q : Program). IsParked q c.park.result) program c.park.ensures.parked

pub returns-clause-goes : goal.returns-clause-goes
returns-clause-goes g c = λ depth chunk turns h.
    let p = c.args.self.now.program in
    let f = c.revived-frames.result in
    let t = c.go_on.new.self in
    let e = c.revived-frames.ensures in
    let k = c.park.ensures in
    let standing = subst (λ (q : Program). IsStanding q t) e.standing.program c.go_on.ensures.standing in
    let come = halted_on p c.args.run f e.runs e.frame e.callers (stack_of t) (λ d. inl (inl c.go_on.ensures.goes)) (kept_frames p t standing) depth chunk turns h in
    subst (λ (s : CallStack g.row.H-Value.Denot g.row.H-Iterator.Denot). HasReached p depth chunk (turns + 1) s) (sym (parked_as p t c.park.result k.chunk k.frame k.callers)) come
