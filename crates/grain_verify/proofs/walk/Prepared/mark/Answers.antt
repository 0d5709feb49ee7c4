use Rattle.std.proofs.Common.{ap, ◌∙◌, arith}
use Rattle.grain_verify.specs.Progress.{visits_in}
use Rattle.grain_verify.proofs.TakenArrival.{taken_known, taken_more_within, taken_room}
use Rattle.grain_verify.proofs.VisitCounts.{visited_more}
use Rattle.grain_verify.proofs.walk.Prepared.mark.Goals as goal

pub set-requires : goal.set-requires
set-requires g c = taken_known _ _ c.requires.walking c.requires.inside

pub overflow_add-visits : goal.overflow_add-visits
overflow_add-visits g c =
    let few = taken_room _ _ c.requires.walking c.requires.inside c.requires.ready c.requires.fresh in
    omega (arith, few, c.requires.counted)

pub returns-clause-halts : goal.returns-clause-halts
returns-clause-halts g c = record {
  before = c.args.traversal.now.states;
  earlier = c.args.deepest.now;
  fresh = c.requires.fresh;
  marked = c.set.ensures;
  deeper = c.max.ensures;
  within = c.requires.inside;
  addresses = omega arith;
  is = c.requires.walking;
}

pub returns-clause-more : goal.returns-clause-more
returns-clause-more g c =
    let here = c.args.here in
    let known = taken_known _ _ c.requires.walking c.requires.inside in
    ap visits_in c.set.ensures ∙ visited_more c.args.traversal.now.states here.ordinal here.state known c.requires.fresh

pub returns-clause-within : goal.returns-clause-within
returns-clause-within g c =
    let few = taken_more_within _ _ c.requires.walking c.requires.inside c.requires.ready c.requires.fresh in
    omega (arith, few, c.requires.counted)

pub returns-clause-counted : goal.returns-clause-counted
returns-clause-counted g c =
    let here = c.args.here in
    let known = taken_known _ _ c.requires.walking c.requires.inside in
    let more = visited_more c.args.traversal.now.states here.ordinal here.state known c.requires.fresh in
    rw (c.set.ensures) (omega (arith, more, c.requires.counted))
