use Rattle.std.proofs.Common.{sym, ◌∙◌, subst}
use Rattle.grain.specs.Program.{Program}
use Rattle.grain_machine.specs.Resting.{IsParked, parked_stack}
use Rattle.grain_machine.specs.Calls.{CallStack}
use Rattle.grain_machine.specs.Standing.{IsStanding}
use Rattle.grain_machine.proofs.Pausing.{AreKept, come_first, parked_as}
use Rattle.grain_machine.proofs.Returning.{kept_frames}
use Rattle.grain_machine.proofs.prepared.Runnable.start.Goals as goal

pub park-requires : goal.park-requires
park-requires g c =
    let standing = c.in_ok-frames.ensures.standing in
    subst (λ (q : Program). IsStanding q c.in_ok-frames.frames) (sym standing.program) standing

pub returns-clause-parked : goal.returns-clause-parked
returns-clause-parked g c = subst (λ (q : Program). IsParked q c.park.result) c.in_ok-frames.ensures.standing.program c.park.ensures.parked

pub returns-clause-reached : goal.returns-clause-reached
returns-clause-reached g c = λ depth.
    let p = c.args.self.now.program in
    let f = c.in_ok-frames.frames in
    let k = c.park.ensures in
    let same = parked_as p f c.park.result k.chunk k.frame k.callers in
    let kept = kept_frames p f c.in_ok-frames.ensures.standing in
    come_first p depth c.args.self.now.chunk (parked_stack c.park.result) (same ∙ c.in_ok-frames.ensures.first)
    (subst (λ (s : CallStack g.row.V.Denot g.row.I.Denot). AreKept p s) (sym same) kept)
