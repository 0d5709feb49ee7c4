use Rattle.std.proofs.Common.{inr, ◌+◌, List, Option, Some, length, refl, sym, ap, subst, ◌∙◌, arith}
use Rattle.std.specs.Option.{option_to_list}
use Rattle.std.proofs.lemmas.List.{append-nil}
use Rattle.grain_rules.specs.Flaw.{ChunkFlaw}
use Rattle.grain_verify.specs.Progress.{IsWalking, visits_in}
use Rattle.grain_verify.specs.Visits.{IsVisited}
use Rattle.grain_verify.specs.declared.state.Arrival.{Arrival}
use Rattle.grain_verify.specs.declared.state.State.{State}
use Rattle.grain_verify.proofs.OutDegree.{fewer_left, lighter_still, lighter_visited, next_visited}
use Rattle.grain_verify.proofs.Ordinals.{ordinal_low}
use Rattle.grain_verify.proofs.RefusalsAreFlaws.{err_so, ok_so}
use Rattle.grain_rules.proofs.Splits.{boundary_apart}
use Rattle.grain_verify.proofs.TakenArrival.{taken_conflicts, taken_falls, taken_inside, taken_known, taken_named, taken_place, taken_skipped, taken_small, taken_within}
use Rattle.grain_verify.proofs.PlainWalk.{plain_visited}
use Rattle.grain_verify.proofs.walk.Prepared.walk_from.Goals as goal

pub others-init : goal.others-init
others-init g c = record { walking = c.requires.walking; floor = c.floor-floor.ensures.floor; small = c.floor-floor.ensures.small; knows = c.requires.knows; counted = c.requires.counted; lighter = omega arith }

pub head_at-requires-clause-place : goal.head_at-requires-clause-place
head_at-requires-clause-place g c = taken_inside _ _ c.others.invariant.walking

pub get-requires : goal.get-requires
get-requires g c = taken_known _ _ c.others.invariant.walking c.in-Some.ensures.inside

pub returns-in-Some-get-clause-walking : goal.returns-in-Some-get-clause-walking
returns-in-Some-get-clause-walking g c =
    ok_so c.check_same.result (λ same. taken_skipped _ _ c.others.invariant.walking c.in-Some.ensures.inside (sym c.get.ensures ∙ (c.in-Some-get.is ∙ ap (λ (s : State). Some s) same))) c.check_same.ensures.ok

pub returns-in-Some-get-clause-within : goal.returns-in-Some-get-clause-within
returns-in-Some-get-clause-within g c =
    let few = taken_within _ _ c.others.invariant.walking c.requires.ready in
    omega (arith, few, c.others.invariant.counted)

pub returns-in-Some-get-clause-err : goal.returns-in-Some-get-clause-err
returns-in-Some-get-clause-err g c =
    let flaw = ChunkFlaw c.args.self.now.code c.args.chunk.now in
    let conflicts = taken_conflicts _ _ c.others.invariant.walking c.in-Some.ensures.inside c.in-Some-get.before c.requires.framed (sym c.get.ensures ∙ c.in-Some-get.is) in
    err_so c.check_same.result (λ e unlike. inr (subst flaw (sym unlike.0) (conflicts unlike.1))) c.check_same.ensures.err

pub plain_next-requires-clause-room : goal.plain_next-requires-clause-room
plain_next-requires-clause-room g c =
    let self = c.args.self.now in
    let head = c.in-Some.ensures.headed in
    let halts = c.mark.ensures.halts in
    let within = taken_inside _ _ halts.is halts.within in
    let apart = boundary_apart self.code.bytes c.others.here.at c.args.chunk.now.end head.op within.place c.requires.framed.end head.stands within.end in
    omega (arith, apart, head.width, c.in-Some.ensures.addresses)

pub plain_next-requires-clause-operands_room : goal.plain_next-requires-clause-operands_room
plain_next-requires-clause-operands_room g c =
    let halts = c.mark.ensures.halts in
    let small = taken_small _ _ halts.is halts.within c.requires.ready halts.fresh in
    omega (arith, small.0, c.in-Some.ensures.addresses)

pub plain_next-requires-clause-ordinal_room : goal.plain_next-requires-clause-ordinal_room
plain_next-requires-clause-ordinal_room g c =
    let self = c.args.self.now in
    let halts = c.mark.ensures.halts in
    let place = taken_place _ _ halts.is halts.within in
    let low = ordinal_low self.code.bytes self.starts c.requires.ready.starts c.others.here.ordinal c.others.here.at place in
    omega (arith, low, c.in-Some.ensures.inside, c.in-Some.ensures.addresses)

pub others-preserved-in-Some-plain_next : goal.others-preserved-in-Some-plain_next
others-preserved-in-Some-plain_next g c =
    let self = c.args.self.now in
    let head = c.in-Some.ensures.headed in
    let marked = c.mark.new.traversal in
    let next = c.in-Some-plain_next.ensures self.code.bytes c.others.lists head.op head.stands head.tag head.width c.others.invariant.floor in
    let done = c.mark.ensures in
    record {
      walking = plain_visited self c.args.chunk.now c.others.lists marked c.others.here c.in-Some-plain_next.next c.mark.new.deepest c.requires.ready c.requires.framed done.halts next;
      floor = rw (next.is) (c.others.invariant.floor);
      small = c.others.invariant.small;
      knows = c.others.invariant.knows;
      counted = done.counted;
      lighter = (let less = lighter_still self c.others.traversal marked marked (length marked.work.items + 1) _ done.more done.long done.work refl (omega arith) c.others.invariant.lighter in omega (arith, less));
    }

pub visit_by_tag-requires-clause-above : goal.visit_by_tag-requires-clause-above
visit_by_tag-requires-clause-above g c = (c.others.floor, c.others.invariant.floor, omega (arith, c.from.ensures, c.from-in-Some.ensures, c.if-above.true))

pub others-preserved-then-above : goal.others-preserved-then-above
others-preserved-then-above g c =
    let done = c.mark.ensures in
    let told = c.in-Ok.ensures in
    record {
      walking = told.visited.walking c.mark.new.deepest done.halts;
      floor = told.floor c.others.floor c.others.invariant.floor;
      small = c.others.invariant.small;
      knows = c.others.invariant.knows;
      counted = done.counted ∙ sym (ap visits_in told.visited.states);
      lighter = lighter_visited _ _ _ _ c.others.traversal c.mark.new.traversal _ _ _ _ done.more done.long done.work told.visited c.others.invariant.lighter;
    }

pub visit_by_tag-requires-in-Branches-clause-above : goal.visit_by_tag-requires-in-Branches-clause-above
visit_by_tag-requires-in-Branches-clause-above g c = (c.others.floor, c.others.invariant.floor, omega (arith, c.from.ensures, c.from-in-Some.ensures, c.if-above-2.true))

pub others-preserved-then-above-2 : goal.others-preserved-then-above-2
others-preserved-then-above-2 g c =
    let done = c.mark.ensures in
    let told = c.in-Ok-visit_by_tag.ensures in
    record {
      walking = told.visited.walking c.mark.new.deepest done.halts;
      floor = told.floor c.others.floor c.others.invariant.floor;
      small = c.others.invariant.small;
      knows = c.others.invariant.knows;
      counted = done.counted ∙ sym (ap visits_in told.visited.states);
      lighter = lighter_visited _ _ _ _ c.others.traversal c.mark.new.traversal _ _ _ _ done.more done.long done.work told.visited c.others.invariant.lighter;
    }

pub visit_by_tag-requires-in-PushesHandler-clause-above : goal.visit_by_tag-requires-in-PushesHandler-clause-above
visit_by_tag-requires-in-PushesHandler-clause-above g c = (c.others.floor, c.others.invariant.floor, omega (arith, c.from.ensures, c.from-in-Some.ensures, c.if-above-3.true))

pub others-preserved-then-above-3 : goal.others-preserved-then-above-3
others-preserved-then-above-3 g c =
    let done = c.mark.ensures in
    let told = c.in-Ok-visit_by_tag-2.ensures in
    let is_floor = told.floor c.others.floor c.others.invariant.floor in
    record {
      walking = told.visited.walking c.mark.new.deepest done.halts;
      floor = λ n l up. is_floor n l (omega (arith, up, c.floor_armed-floor.ensures.floor));
      small = c.floor_armed-floor.ensures.small;
      knows = c.others.invariant.knows;
      counted = done.counted ∙ sym (ap visits_in told.visited.states);
      lighter = lighter_visited _ _ _ _ c.others.traversal c.mark.new.traversal _ _ _ _ done.more done.long done.work told.visited c.others.invariant.lighter;
    }

pub visit_by_tag-requires-in-PopsHandler-clause-above : goal.visit_by_tag-requires-in-PopsHandler-clause-above
visit_by_tag-requires-in-PopsHandler-clause-above g c = (c.others.floor, c.others.invariant.floor, omega (arith, c.from.ensures, c.from-in-Some.ensures, c.if-above-4.true))

pub floor-floor-requires-in-PopsHandler-clause-shared : goal.floor-floor-requires-in-PopsHandler-clause-shared
floor-floor-requires-in-PopsHandler-clause-shared g c = (c.in-Ok-visit_by_tag-3.ensures.visited.walking c.mark.new.deepest c.mark.ensures.halts).known.shared

pub floor-floor-requires-in-PopsHandler-clause-list : goal.floor-floor-requires-in-PopsHandler-clause-list
floor-floor-requires-in-PopsHandler-clause-list g c =
    taken_named _ _ (c.in-Ok-visit_by_tag-3.ensures.visited.walking c.mark.new.deepest c.mark.ensures.halts)

pub others-preserved-then-above-4 : goal.others-preserved-then-above-4
others-preserved-then-above-4 g c =
    let done = c.mark.ensures in
    let told = c.in-Ok-visit_by_tag-3.ensures in
    record {
      walking = told.visited.walking c.mark.new.deepest done.halts;
      floor = c.floor-floor-in-PopsHandler.ensures.floor;
      small = c.floor-floor-in-PopsHandler.ensures.small;
      knows = c.others.invariant.knows;
      counted = done.counted ∙ sym (ap visits_in told.visited.states);
      lighter = lighter_visited _ _ _ _ c.others.traversal c.mark.new.traversal _ _ _ _ done.more done.long done.work told.visited c.others.invariant.lighter;
    }

pub returns-in-Ok-None-clause-walking : goal.returns-in-Ok-None-clause-walking
returns-in-Ok-None-clause-walking g c =
    let new = c.visit.new in
    let at : Option Arrival → Type 0 = λ o. IsVisited c.args.self.now c.args.chunk.now c.others.lists new.lists c.mark.new.traversal new.traversal c.others.here (option_to_list o) in
    let visited = subst at c.in-Ok-None.field-0-is c.in-Ok-None.ensures.visited in
    subst (λ (xs : List Arrival). IsWalking c.args.self.now c.args.chunk.now new.lists new.traversal xs c.mark.new.deepest) (append-nil new.traversal.work.items) (visited.walking c.mark.new.deepest c.mark.ensures.halts)

pub floor-floor-requires-in-Ok-Some-clause-shared : goal.floor-floor-requires-in-Ok-Some-clause-shared
floor-floor-requires-in-Ok-Some-clause-shared g c = (c.in-Ok-Some.ensures.visited.walking c.mark.new.deepest c.mark.ensures.halts).known.shared

pub floor-floor-requires-in-Ok-Some-clause-list : goal.floor-floor-requires-in-Ok-Some-clause-list
floor-floor-requires-in-Ok-Some-clause-list g c =
    let new = c.visit.new in
    let visited = next_visited _ _ _ _ _ _ _ _ _ c.in-Ok-Some.field-0-is c.in-Ok-Some.ensures.visited in
    taken_named _ _ (visited.walking c.mark.new.deepest c.mark.ensures.halts)

pub others-preserved : goal.others-preserved
others-preserved g c =
    let done = c.mark.ensures in
    let new = c.visit.new in
    let visited = next_visited _ _ _ _ _ _ _ _ _ c.in-Ok-Some.field-0-is c.in-Ok-Some.ensures.visited in
    record {
      walking = visited.walking c.mark.new.deepest done.halts;
      floor = c.floor-floor-in-Ok-Some.ensures.floor;
      small = c.floor-floor-in-Ok-Some.ensures.small;
      knows = c.in-Ok-Some.ensures.knows;
      counted = done.counted ∙ sym (ap visits_in visited.states);
      lighter = lighter_visited _ _ _ _ c.others.traversal c.mark.new.traversal _ _ _ _ done.more done.long done.work visited c.others.invariant.lighter;
    }

pub returns-clause-within : goal.returns-clause-within
returns-clause-within g c =
    let few = taken_within _ _ c.others.invariant.walking c.requires.ready in
    omega (arith, few, c.others.invariant.counted)

pub returns-clause-err : goal.returns-clause-err
returns-clause-err g c =
    inr (inr (c.requires.framed, taken_falls _ _ c.others.invariant.walking c.in_default.ensures.none))

pub visit_by_tag-requires-clause-marked : goal.visit_by_tag-requires-clause-marked
visit_by_tag-requires-clause-marked g c = record { ready = c.requires.ready; framed = c.requires.framed; halts = (c.mark.new.deepest, c.mark.ensures.halts) }

pub visit_by_tag-requires-in-Branches-clause-marked : goal.visit_by_tag-requires-in-Branches-clause-marked
visit_by_tag-requires-in-Branches-clause-marked g c = record { ready = c.requires.ready; framed = c.requires.framed; halts = (c.mark.new.deepest, c.mark.ensures.halts) }

pub visit_by_tag-requires-in-PushesHandler-clause-marked : goal.visit_by_tag-requires-in-PushesHandler-clause-marked
visit_by_tag-requires-in-PushesHandler-clause-marked g c = record { ready = c.requires.ready; framed = c.requires.framed; halts = (c.mark.new.deepest, c.mark.ensures.halts) }

pub visit_by_tag-requires-in-PopsHandler-clause-marked : goal.visit_by_tag-requires-in-PopsHandler-clause-marked
visit_by_tag-requires-in-PopsHandler-clause-marked g c = record { ready = c.requires.ready; framed = c.requires.framed; halts = (c.mark.new.deepest, c.mark.ensures.halts) }

pub visit-requires-clause-marked : goal.visit-requires-clause-marked
visit-requires-clause-marked g c = record { ready = c.requires.ready; framed = c.requires.framed; halts = (c.mark.new.deepest, c.mark.ensures.halts) }

pub others-smaller-in-Some-plain_next : goal.others-smaller-in-Some-plain_next
others-smaller-in-Some-plain_next g c = fewer_left c.others.traversal.states c.mark.new.traversal.states _ c.mark.ensures.more c.mark.ensures.long refl

pub others-smaller-then-above : goal.others-smaller-then-above
others-smaller-then-above g c = fewer_left c.others.traversal.states c.mark.new.traversal.states _ c.mark.ensures.more c.mark.ensures.long c.in-Ok.ensures.visited.states

pub others-smaller-then-above-2 : goal.others-smaller-then-above-2
others-smaller-then-above-2 g c = fewer_left c.others.traversal.states c.mark.new.traversal.states _ c.mark.ensures.more c.mark.ensures.long c.in-Ok-visit_by_tag.ensures.visited.states

pub others-smaller-then-above-3 : goal.others-smaller-then-above-3
others-smaller-then-above-3 g c = fewer_left c.others.traversal.states c.mark.new.traversal.states _ c.mark.ensures.more c.mark.ensures.long c.in-Ok-visit_by_tag-2.ensures.visited.states

pub others-smaller-then-above-4 : goal.others-smaller-then-above-4
others-smaller-then-above-4 g c = fewer_left c.others.traversal.states c.mark.new.traversal.states _ c.mark.ensures.more c.mark.ensures.long c.in-Ok-visit_by_tag-3.ensures.visited.states

pub others-smaller : goal.others-smaller
others-smaller g c =
    let visited = next_visited _ _ _ _ _ _ _ _ _ c.in-Ok-Some.field-0-is c.in-Ok-Some.ensures.visited in
    fewer_left c.others.traversal.states c.mark.new.traversal.states _ c.mark.ensures.more c.mark.ensures.long visited.states

pub returns-in-Ok-None-clause-counted : goal.returns-in-Ok-None-clause-counted
returns-in-Ok-None-clause-counted g c =
    let new = c.visit.new in
    let at : Option Arrival → Type 0 = λ o. IsVisited c.args.self.now c.args.chunk.now c.others.lists new.lists c.mark.new.traversal new.traversal c.others.here (option_to_list o) in
    let visited = subst at c.in-Ok-None.field-0-is c.in-Ok-None.ensures.visited in
    c.mark.ensures.counted ∙ sym (ap visits_in visited.states)

pub returns-in-Ok-None-clause-within : goal.returns-in-Ok-None-clause-within
returns-in-Ok-None-clause-within g c = c.mark.ensures.within
