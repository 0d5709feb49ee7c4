use Rattle.std.proofs.Common.{length, arith}
use Rattle.std.proofs.lemmas.List.Elements.{All-from_all_within, AllWithin-more_set, AllWithin-upto}
use Rattle.rhai_errors.specs.Places.{HasPlaces}
use Rattle.rhai_syntax.proofs.grammar.place_flaws.Goals as goal

pub loop-flaw-preserved : goal.loop-flaw-preserved
loop-flaw-preserved c = AllWithin-more_set c.loop-flaw.flaws c.loop-flaw.flaw-index c.within.result (omega arith) (HasPlaces c.args.source.now) c.loop-flaw.invariant c.within.ensures.placed

pub returns : goal.returns
returns c = All-from_all_within (HasPlaces c.args.source.now) c.loop-flaw.flaws (AllWithin-upto (HasPlaces c.args.source.now) c.loop-flaw.flaws 0 c.loop-flaw.flaw-index (length c.loop-flaw.flaws) (omega arith) c.loop-flaw.invariant)
