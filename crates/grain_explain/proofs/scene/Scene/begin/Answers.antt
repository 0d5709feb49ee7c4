use Rattle.std.proofs.Common.{◌∙◌, ◌≡◌, ◌-◌, [], inl, inr, get_or, List, None, Option, Some, refl, subst, arith}
use Rattle.std.proofs.lemmas.List.{length-replicate}
use Rattle.std.proofs.lemmas.List.Elements.{All-nil, Contains-push}
use Rattle.grain_explain.specs.Scenes.{IsCome, first_arrival, seen}
use Rattle.grain_explain.specs.declared.arrival.Arrival.{Arrival}
use Rattle.grain_explain.proofs.Sceneries.{first_come, free_place, no_arrival, none_come, none_held}
use Rattle.grain_explain.proofs.scene.Scene.begin.Goals as goal

pub returns-clause-searching : goal.returns-clause-searching
returns-clause-searching g c =
    let s = seen g.P.Read.facts g.P.Read.leads c.args.self.now in
    let slots = c.in_ok-free_slots.field-0.items in
    let entry = c.entry.ensures in
    let end = c.end.ensures in
    let n = c.end.result - c.entry.result in
    record {
      linked = rw c.new-2.ensures (λ k l. absurd (omega arith));
      sized = rw c.in_ok-free_slots.ensures (length-replicate n no_arrival ∙ omega arith);
      short = rw c.in_ok-free_slots.ensures (let l = length-replicate n no_arrival in omega (arith, l));
      few = rw c.new-2.ensures (omega arith);
      held = rw c.in_ok-free_slots.ensures (none_come s _ n);
      waits = rw c.new.ensures.items (All-nil (IsCome s _ _));
    }

pub returns-clause-next : goal.returns-clause-next
returns-clause-next g c =
    let s = seen g.P.Read.facts g.P.Read.leads c.args.self.now in
    let bases = c.new-2.result.bases.items in
    let slots = c.in_ok-free_slots.field-0.items in
    let entry = c.entry.ensures in
    let end = c.end.ensures in
    let n = c.end.result - c.entry.result in
    let holds = c.requires.holds in
    record {
      come = first_come s bases slots (first_arrival s.chunk) c.requires (omega arith) refl refl;
      placed = omega arith;
      first = (λ _. refl, λ _. refl);
      begun = inl refl;
      inside = rw c.in_ok-free_slots.ensures (let l = length-replicate n no_arrival in omega (arith, l));
      free = rw c.in_ok-free_slots.ensures (free_place n 0);
      pursued = rw c.new.ensures.items (record {
        entry = (first_arrival s.chunk, inr (Contains-push [] (first_arrival s.chunk)), refl);
        each = λ k a e. absurd (none_held n k a (subst (λ (xs : List (Option Arrival)). get_or xs k None ≡ Some a) c.in_ok-free_slots.ensures e));
      });
    }
