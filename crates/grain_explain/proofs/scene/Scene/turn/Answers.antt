use Rattle.std.proofs.Common.{Option, sym, ◌≡◌, ◌-◌, List, Some, subst, arith}
use Rattle.std.proofs.lemmas.List.Elements.{All-pop}
use Rattle.grain_explain.specs.Pursuits.{ArePursued, WasVisited}
use Rattle.grain_explain.specs.Scenes.{IsCome, seen}
use Rattle.grain_explain.specs.Ways.{arrival_stop}
use Rattle.grain_explain.specs.declared.arrival.Arrival.{Arrival}
use Rattle.grain_explain.specs.declared.row.LinkedBase.{LinkedBase}
use Rattle.grain_explain.proofs.PursuitSteps.{pursued_less}
use Rattle.grain_explain.proofs.Sceneries.{come_read, held_read, place_within, slot_held}
use Rattle.grain_explain.proofs.scene.Scene.turn.Goals as goal

pub compare-requires-clause-come : goal.compare-requires-clause-come
compare-requires-clause-come g c = held_read (seen g.P.Read.facts g.P.Read.leads c.args.self.now) _ _ _ _ c.deref-in-Some.ensures.value c.deref.ensures.value c.loop-arrival.invariant.searching.held

pub compare-requires-clause-before : goal.compare-requires-clause-before
compare-requires-clause-before g c =
    let s = seen g.P.Read.facts g.P.Read.leads c.args.self.now in
    let bases = c.loop-arrival.search.arming.bases.items in
    let slots = c.loop-arrival.search.slots.items in
    let old = c.loop-arrival.invariant.searching in
    let place = c.in-Some.arrival.row.at - c.entry.result in
    let before = c.in-Some-index.before in
    let popped = All-pop (IsCome s bases slots) c.loop-arrival.search.work.items c.pop.new.self.items (Some c.in-Some.arrival) c.in-Some.ensures.items old.waits in
    let slot = slot_held slots place c.index.result.now before (place_within s slots c.in-Some.arrival.row.at c.entry.result c.entry.ensures old.sized popped.1.inside) c.index.ensures c.in-Some-index.is in
    subst (λ (xs : List (Option Arrival)). WasVisited xs before) (sym c.deref.ensures.value) (place, slot)

pub compare-requires-clause-arrival : goal.compare-requires-clause-arrival
compare-requires-clause-arrival g c =
    let s = seen g.P.Read.facts g.P.Read.leads c.args.self.now in
    let bases = c.loop-arrival.search.arming.bases.items in
    let slots = c.loop-arrival.search.slots.items in
    let popped = All-pop (IsCome s bases slots) c.loop-arrival.search.work.items c.pop.new.self.items (Some c.in-Some.arrival) c.in-Some.ensures.items c.loop-arrival.invariant.searching.waits in
    come_read s _ _ _ _ c.in-Some.arrival c.deref-in-Some.ensures.value c.deref.ensures.value popped.1

pub compare-requires-clause-there : goal.compare-requires-clause-there
compare-requires-clause-there g c =
    let s = seen g.P.Read.facts g.P.Read.leads c.args.self.now in
    let bases = c.loop-arrival.search.arming.bases.items in
    let slots = c.loop-arrival.search.slots.items in
    let old = c.loop-arrival.invariant.searching in
    let place = c.in-Some.arrival.row.at - c.entry.result in
    let before = c.in-Some-index.before in
    let popped = All-pop (IsCome s bases slots) c.loop-arrival.search.work.items c.pop.new.self.items (Some c.in-Some.arrival) c.in-Some.ensures.items old.waits in
    let slot = slot_held slots place c.index.result.now before (place_within s slots c.in-Some.arrival.row.at c.entry.result c.entry.ensures old.sized popped.1.inside) c.index.ensures c.in-Some-index.is in
    let placed = (old.held place before slot).placed in
    let low = popped.1.inside.entry in
    let entry = c.entry.ensures in
    omega arith

pub returns-in-Some-2-clause-searching : goal.returns-in-Some-2-clause-searching
returns-in-Some-2-clause-searching g c =
    let s = seen g.P.Read.facts g.P.Read.leads c.args.self.now in
    let bases = c.loop-arrival.search.arming.bases.items in
    let slots = c.loop-arrival.search.slots.items in
    let old = c.loop-arrival.invariant.searching in
    let popped = All-pop (IsCome s bases slots) c.loop-arrival.search.work.items c.pop.new.self.items (Some c.in-Some.arrival) c.in-Some.ensures.items old.waits in
    record { linked = old.linked; sized = old.sized; short = old.short; few = old.few; held = old.held; waits = popped.0 }

pub loop-arrival-preserved : goal.loop-arrival-preserved
loop-arrival-preserved g c =
    let s = seen g.P.Read.facts g.P.Read.leads c.args.self.now in
    let bases = c.loop-arrival.search.arming.bases.items in
    let slots = c.loop-arrival.search.slots.items in
    let old = c.loop-arrival.invariant.searching in
    let popped = All-pop (IsCome s bases slots) c.loop-arrival.search.work.items c.pop.new.self.items (Some c.in-Some.arrival) c.in-Some.ensures.items old.waits in
    let place = c.in-Some.arrival.row.at - c.entry.result in
    let before = c.in-Some-index.before in
    let slot = slot_held slots place c.index.result.now before (place_within s slots c.in-Some.arrival.row.at c.entry.result c.entry.ensures old.sized popped.1.inside) c.index.ensures c.in-Some-index.is in
    let same : arrival_stop bases before ≡ arrival_stop bases c.in-Some.arrival = subst (λ (bs : List LinkedBase). arrival_stop bs before ≡ arrival_stop bs c.in-Some.arrival) c.deref-in-Some.ensures.value
    (rw c.in_default-2.is at c.in_ok-refusal.ensures.same) in
    record {
      same = c.loop-arrival.invariant.same;
      searching = record { linked = old.linked; sized = old.sized; short = old.short; few = old.few; held = old.held; waits = popped.0 };
      pursued = pursued_less s bases slots c.pop.new.self.items c.in-Some.arrival before (place, slot) same
          (subst (ArePursued s bases slots) c.in-Some.ensures.items c.loop-arrival.invariant.pursued);
    }
