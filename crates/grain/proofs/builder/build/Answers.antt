use Rattle.std.proofs.Common.{ap, subst}
use Rattle.grain_rules.specs.Accepted.{AreDeepest, IsAccepted}
use Rattle.grain.specs.Build.{draft, of_verify}
use Rattle.grain.specs.Program.{Program, input_of}
use Rattle.grain.proofs.BuildAcceptance.{accepted_here, accepted_there, numbers_here}
use Rattle.grain.proofs.BuildRefusals.{of_refusal}
use Rattle.grain.proofs.builder.build.Goals as goal

pub returns-in-Err-clause-accepts : goal.returns-in-Err-clause-accepts
returns-in-Err-clause-accepts c can =
    let d = draft c.args.caps c.args.ops.now c.args.cuts.now c.args.heads.items c.args.parts in
    let program = c.in_ok-program.program in
    let laid = c.in_ok-program.ensures in
    rw c.from.ensures (ap of_verify (c.in-Err.ensures.accepts (accepted_there d program laid.lays laid.ok can)))

pub returns-in-Ok-clause-accepted : goal.returns-in-Ok-clause-accepted
returns-in-Ok-clause-accepted c =
    let laid = c.in_ok-program.ensures in
    accepted_here (draft c.args.caps c.args.ops.now c.args.cuts.now c.args.heads.items c.args.parts) c.in_ok-program.program laid.lays laid.ok
    (subst (λ (p : Program). IsAccepted (input_of p)) c.in-Ok.ensures.program c.in-Ok.ensures.verified.accepted)

pub returns-in-Ok-clause-deepest : goal.returns-in-Ok-clause-deepest
returns-in-Ok-clause-deepest c =
    let laid = c.in_ok-program.ensures in
    numbers_here (draft c.args.caps c.args.ops.now c.args.cuts.now c.args.heads.items c.args.parts) c.in_ok-program.program laid.lays laid.ok c.in-Ok.verified.depths
    (subst (λ (p : Program). AreDeepest (input_of p) c.in-Ok.verified.depths) c.in-Ok.ensures.program c.in-Ok.ensures.verified.deepest)

pub returns-in-Err-clause-flaws : goal.returns-in-Err-clause-flaws
returns-in-Err-clause-flaws c =
    let laid = c.in_ok-program.ensures in
    rw c.from.ensures (of_refusal (draft c.args.caps c.args.ops.now c.args.cuts.now c.args.heads.items c.args.parts) c.in_ok-program.program laid.lays laid.ok c.in-Err.rejected.refusal.error c.in-Err.ensures.flaws)
