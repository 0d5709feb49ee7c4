use Rattle.std.proofs.Common.{rules, length, sym, ◌∙◌, ap, subst}
use Rattle.grain_rules.specs.Code.{coded}
use Rattle.grain_verify.specs.Progress.{visits_in}
use Rattle.grain_rules.specs.Typing.{IsReachedCount}
use Rattle.grain_verify.proofs.PlainWalk.{walk_ended, walking_begun}
use Rattle.grain_verify.proofs.VisitCounts.{visits_nothing}
use Rattle.grain_verify.proofs.walk.Prepared.walk.Goals as goal

pub arrivals-init : goal.arrivals-init
arrivals-init g c =
    let begun = c.begin_chunk.ensures in
    record {
      walking = walking_begun c.args.self.now c.args.chunk.now c.clear.new.self c.begin_chunk.new.self c.entry.result c.args.ordinal (length c.args.traversal.now.states)
          (length c.args.traversal.now.sent) c.requires.framed c.requires.holds c.entry.ensures c.requires.place begun.states begun.sent c.clear.ensures.shared c.clear.ensures.size
          begun.work c.requires.fits.states c.requires.fits.sent;
      knows = c.requires.knows;
      counted = c.requires.none ∙ sym (ap visits_in begun.states ∙ visits_nothing (length c.args.traversal.now.states));
    }

pub returns-in-None-clause-typed : goal.returns-in-None-clause-typed
returns-in-None-clause-typed g c = (walk_ended c.in-None.ensures.items (search rules) c.in_ok-walk_from.ensures.walking).0

pub returns-in-None-clause-deepest : goal.returns-in-None-clause-deepest
returns-in-None-clause-deepest g c = (walk_ended c.in-None.ensures.items (search rules) c.in_ok-walk_from.ensures.walking).1

pub returns-in-None-clause-reached : goal.returns-in-None-clause-reached
returns-in-None-clause-reached g c =
    let ended = walk_ended c.in-None.ensures.items (search rules) c.in_ok-walk_from.ensures.walking in
    subst (IsReachedCount (coded c.args.self.now.code) c.args.chunk.now) (sym c.in_ok-walk_from.ensures.counted) ended.2
