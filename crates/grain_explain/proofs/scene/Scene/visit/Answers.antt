use Rattle.std.proofs.Common.{◌≤◌, List, Option, Some, inl, inr, length, set, subst, sym, ◌∙◌, arith}
use Rattle.std.specs.List.{All}
use Rattle.std.proofs.lemmas.List.{length-set}
use Rattle.std.proofs.lemmas.List.Elements.{All-weaker}
use Rattle.grain_explain.specs.Pursuits.{IsPursued, Keeps}
use Rattle.grain_explain.specs.Scenes.{AreCome, Extends, IsCome, seen, visit_count}
use Rattle.grain_explain.specs.Ways.{first_stop}
use Rattle.grain_explain.specs.declared.arrival.Arrival.{Arrival}
use Rattle.grain_explain.proofs.BaseExtension.{held_more}
use Rattle.grain_explain.proofs.EdgeMatches.{both_ok, on_ok}
use Rattle.grain_explain.proofs.PursuitSteps.{ahead_more, begun_set, each_more}
use Rattle.grain_explain.proofs.Sceneries.{come_kept, come_set, if_none, set_place}
use Rattle.grain_explain.proofs.scene.Scene.visit.Goals as goal

pub look-requires-clause-come : goal.look-requires-clause-come
look-requires-clause-come g c =
    let s = seen g.P.Read.facts g.P.Read.leads c.args.self.now in
    let bases = c.args.search.now.arming.bases.items in
    let slots = c.args.search.now.slots.items in
    let next = c.requires.next in
    subst (AreCome s bases) (sym c.deref.ensures.value) (come_set s bases slots c.args.place c.args.arrival next.inside next.free c.requires.searching.held next.come next.placed next.first)

pub look-requires-clause-waits : goal.look-requires-clause-waits
look-requires-clause-waits g c =
    let s = seen g.P.Read.facts g.P.Read.leads c.args.self.now in
    let bases = c.args.search.now.arming.bases.items in
    let slots = c.args.search.now.slots.items in
    let work = c.args.search.now.work.items in
    let next = c.requires.next in
    subst (λ (xs : List (Option Arrival)). All (IsCome s bases xs) work) (sym c.deref.ensures.value)
    (All-weaker (IsCome s bases slots) (IsCome s bases (set slots c.args.place (Some c.args.arrival))) (come_kept s bases slots c.args.place c.args.arrival next.inside next.free) work c.requires.searching.waits)

pub look-requires-clause-short : goal.look-requires-clause-short
look-requires-clause-short g c =
    let short = c.requires.searching.short in
    let put = length-set c.args.search.now.slots.items c.args.place (Some c.args.arrival) in
    rw c.deref.ensures.value (omega (arith, put, short))

pub returns-clause-searching : goal.returns-clause-searching
returns-clause-searching g c =
    let s = seen g.P.Read.facts g.P.Read.leads c.args.self.now in
    let old = c.args.search.now.arming.bases.items in
    let new = c.look.new.arming.bases.items in
    let slots = c.args.search.now.slots.items in
    let put = set slots c.args.place (Some c.args.arrival) in
    let long = length-set slots c.args.place (Some c.args.arrival) in
    let next = c.requires.next in
    let r = c.requires.searching in
    let short = r.short in
    let held = come_set s old slots c.args.place c.args.arrival next.inside next.free r.held next.come next.placed next.first in
    both_ok c.look.result (λ (few : length new ≤ visit_count c.deref.result.now) (rest : Extends old new × All (IsCome s new c.deref.result.now) c.look.new.work.items). (let extends = rest.0 in record {
      linked = extends.linked;
      sized = long ∙ r.sized;
      short = omega (arith, long, short);
      few = subst (λ (xs : List (Option Arrival)). length new ≤ visit_count xs) c.deref.ensures.value few;
      held = held_more old new r.linked extends s put held;
      waits = subst (λ (xs : List (Option Arrival)). All (IsCome s new xs) c.look.new.work.items) c.deref.ensures.value rest.1;
    })) c.look.ensures.few
    (both_ok c.look.result (λ (extends : Extends old new) (waits : All (IsCome s new c.deref.result.now) c.look.new.work.items). (extends, waits)) c.look.ensures.extends c.look.ensures.waits)

pub returns-clause-pursued : goal.returns-clause-pursued
returns-clause-pursued g c =
    let s = seen g.P.Read.facts g.P.Read.leads c.args.self.now in
    let old = c.args.search.now.arming.bases.items in
    let new = c.look.new.arming.bases.items in
    let slots = c.args.search.now.slots.items in
    let work = c.args.search.now.work.items in
    let more = c.look.new.work.items in
    let place = c.args.place in
    let arrival = c.args.arrival in
    let put = set slots place (Some arrival) in
    let next = c.requires.next in
    let r = c.requires.searching in
    if_none c.look.result (λ (both : Extends old new × Keeps work more) (mine : IsPursued s new c.deref.result.now more arrival). record {
      entry = ahead_more s old new r.linked both.0 slots work more place arrival next.inside next.free r.held r.waits next.come both.1 (first_stop s.chunk) next.pursued.entry;
      each = λ k a e. elim (set_place slots place k arrival a e) [
        | inl h ↦ subst (IsPursued s new put more) h.1 (subst (λ (xs : List (Option Arrival)). IsPursued s new xs more arrival) c.deref.ensures.value mine)
        | inr h ↦ each_more s old new r.linked both.0 slots work more place arrival next.inside next.free r.held r.waits next.come both.1 a (r.held k a h).come.listed (next.pursued.each k a h)
      ];
    }) (both_ok c.look.result (λ (extends : Extends old new) (keeps : Keeps work more). (extends, keeps)) c.look.ensures.extends c.look.ensures.keeps) c.look.ensures.pursued

pub returns-clause-begun : goal.returns-clause-begun
returns-clause-begun g c =
    let slots = c.args.search.now.slots.items in
    let next = c.requires.next in
    on_ok c.look.result (λ _. begun_set slots c.args.place c.args.arrival next.inside next.free next.begun) c.look.ensures.keeps
