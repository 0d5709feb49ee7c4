use Rattle.grain_verify.proofs.PushedTargets.{pushed_one}
use Rattle.grain_verify.proofs.edges.push_target.Goals as goal

pub returns-clause-pushed : goal.returns-clause-pushed
returns-clause-pushed c =
    let arrives = c.in_ok-arrival.ensures in
    rw c.in_ok-push.ensures.items (pushed_one c.args.starts.now.starts c.args.chunk.now c.args.work.now.items c.in_ok-arrival.arrival c.args.target c.args.after arrives.arrives arrives.inside arrives.at_ordinal)
