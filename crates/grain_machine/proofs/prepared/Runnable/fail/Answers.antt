use Rattle.std.proofs.Common.{◌+◌, inl, sym, ◌∙◌, subst}
use Rattle.grain.specs.Program.{Program}
use Rattle.grain_machine.specs.Calls.{CallStack}
use Rattle.grain_machine.specs.Resting.{IsParked}
use Rattle.grain_machine.specs.Resuming.{HasReached}
use Rattle.grain_machine.specs.Standing.{IsStanding, stack_of}
use Rattle.grain_machine.proofs.Pausing.{asks_again, halted_end, halted_on, parked_as}
use Rattle.grain_machine.proofs.Returning.{kept_frames}
use Rattle.grain_machine.proofs.prepared.Runnable.fail.Goals as goal

pub raise-requires-clause-standing : goal.raise-requires-clause-standing
raise-requires-clause-standing g c =
    let standing = c.revived-frames.ensures.standing in
    subst (λ (q : Program). IsStanding q c.revived-frames.result) (sym standing.program) standing

pub raise-requires-clause-calling : goal.raise-requires-clause-calling
raise-requires-clause-calling g c =
    let e = c.revived-frames.ensures in
    let a = asks_again c.args.self.now.program c.args.run c.revived-frames.result e.runs e.frame e.callers c.requires in
    record { op = a.op; at = a.at; sounds = a.gives.sounds }

pub park-requires : goal.park-requires
park-requires g c =
    let standing = c.in-Ok.ensures.standing in
    subst (λ (q : Program). IsStanding q c.raise.new.self) (sym standing.program) standing

pub returns-in-Ok-clause-parked : goal.returns-in-Ok-clause-parked
returns-in-Ok-clause-parked g c =
    let program = c.in-Ok.ensures.standing.program ∙ c.revived-frames.ensures.standing.program in
    subst (λ (q : Program). IsParked q c.park.result) program c.park.ensures.parked

pub returns-in-Ok-clause-goes : goal.returns-in-Ok-clause-goes
returns-in-Ok-clause-goes g c = λ depth chunk turns h.
    let p = c.args.self.now.program in
    let f = c.revived-frames.result in
    let t = c.raise.new.self in
    let e = c.revived-frames.ensures in
    let k = c.park.ensures in
    let standing = subst (λ (q : Program). IsStanding q t) e.standing.program c.in-Ok.ensures.standing in
    let come = halted_on p c.args.run f e.runs e.frame e.callers (stack_of t) (λ d. inl c.in-Ok.ensures.goes) (kept_frames p t standing) depth chunk turns h in
    subst (λ (s : CallStack g.row.H-Value.Denot g.row.H-Iterator.Denot). HasReached p depth chunk (turns + 1) s) (sym (parked_as p t c.park.result k.chunk k.frame k.callers)) come

pub returns-in-Err-clause-ends : goal.returns-in-Err-clause-ends
returns-in-Err-clause-ends g c =
    let e = c.revived-frames.ensures in
    halted_end c.args.self.now.program c.args.run c.revived-frames.result e.runs e.frame e.callers c.at-at.result c.in-Err.outcome c.at-at.ensures c.in-Err.ensures.ends
