use Rattle.std.proofs.Common.{◌∙◌, ◌-◌, length, slice_index, sym}
use Rattle.std.proofs.lemmas.Simd.{map-map}
use Rattle.std.proofs.lemmas.Iterator.{YieldsList-from_slice, YieldsList-from_zip}
use Rattle.std.proofs.lemmas.Iterator.Adapters.{YieldsList-from_vec}
use Rattle.std.proofs.lemmas.Iterator.Consumers.{YieldsList-end, YieldsList-turn}
use Rattle.grain.specs.Build.{span_of}
use Rattle.grain_rules.specs.ByIndex.{span_moved}
use Rattle.grain.proofs.AssembledParts.{cut_there, cuts_listed, heads_listed}
use Rattle.grain.proofs.builder.place_functions.Goals as goal

pub place-requires-clause-inside : goal.place-requires-clause-inside
place-requires-clause-inside c =
    let heads = c.args.heads.items in
    let cuts = c.args.cuts.now in
    cut_there heads cuts c.requires.count (length c.args.offsets.now - 1) (length c.loop-head.yielded) (c.in-Some.head, c.in-Some.cut.now) c.requires.inside
    (YieldsList-turn (YieldsList-from_zip (YieldsList-from_vec heads (cc) (cc)) (YieldsList-from_slice cuts (cc))) c.loop-head.yielded c.loop-head.head-iterator c.loop-head.yielded_by
    c.next.result c.next.new.self (c.in-Some.head, c.in-Some.cut) c.in-Some.is c.next.ensures.steps)

pub returns-clause-heads : goal.returns-clause-heads
returns-clause-heads c =
    let heads = c.args.heads.items in
    let cuts = c.args.cuts.now in
    c.loop-head.invariant.heads ∙ heads_listed heads cuts c.requires.count c.loop-head.yielded
    (YieldsList-end (YieldsList-from_zip (YieldsList-from_vec heads (cc) (cc)) (YieldsList-from_slice cuts (cc))) c.loop-head.yielded c.loop-head.head-iterator c.loop-head.yielded_by
    c.next.result c.next.new.self c.in-None.is c.next.ensures.steps).0

pub returns-clause-chunks : goal.returns-clause-chunks
returns-clause-chunks c =
    let heads = c.args.heads.items in
    let cuts = c.args.cuts.now in
    let place = span_moved (slice_index c.args.offsets.now) in
    c.loop-head.invariant.chunks
    ∙ cuts_listed heads cuts c.requires.count (λ cut. place (span_of cut)) c.loop-head.yielded
    (YieldsList-end (YieldsList-from_zip (YieldsList-from_vec heads (cc) (cc)) (YieldsList-from_slice cuts (cc))) c.loop-head.yielded c.loop-head.head-iterator c.loop-head.yielded_by
    c.next.result c.next.new.self c.in-None.is c.next.ensures.steps).0
    ∙ sym (map-map place span_of cuts)
