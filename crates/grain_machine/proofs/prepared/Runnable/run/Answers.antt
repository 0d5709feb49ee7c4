use Rattle.std.proofs.Common.{◌+◌, ◌<◌, arith}
use Rattle.grain_machine.specs.Resting.{parked_stack}
use Rattle.grain_machine.proofs.EndedRuns.{ended, spent, unanswered}
use Rattle.grain_machine.proofs.prepared.Runnable.run.Goals as goal

pub returns-in-Ended-clause-ended : goal.returns-in-Ended-clause-ended
returns-in-Ended-clause-ended g c =
    let r = c.args.self.now in
    let h = c.in-Ended.ensures.goes r.chunk 0 (c.in_ok-begun.ensures.reached c.args.limits.depth) in
    let within : 0 + c.in-Ended._turns < c.args.limits.fuel = let l = h.0 in omega (arith, l) in
    ended r c.args.limits (0 + c.in-Ended._turns) c.in-Ended.ending.at c.in-Ended.ending.outcome within h.1

pub returns-in-Paused-clause-ended : goal.returns-in-Paused-clause-ended
returns-in-Paused-clause-ended g c =
    let r = c.args.self.now in
    let h = c.in-Paused.ensures.goes r.chunk 0 (c.in_ok-begun.ensures.reached c.args.limits.depth) in
    spent r c.args.limits (0 + c.args.limits.fuel) (parked_stack c.in-Paused.rest) c.stop-at.result h c.stop-at.ensures (omega arith)

pub returns-in-Waits-clause-ended : goal.returns-in-Waits-clause-ended
returns-in-Waits-clause-ended g c =
    let r = c.args.self.now in
    let h = c.in-Waits.ensures.goes r.chunk 0 (c.in_ok-begun.ensures.reached c.args.limits.depth) in
    let within : 0 + c.in-Waits._turns < c.args.limits.fuel = let l = h.0 in omega (arith, l) in
    unanswered r c.args.limits (0 + c.in-Waits._turns) c.in-Waits.waiting c.stop-at-in-Waits.result within h.1 c.stop-at-in-Waits.ensures
