-- The walk over plain instructions, in its own variables.
use Rattle.std.proofs.Common.{◌≡◌, inl, ℕ, ◌+◌, ◌-◌, ◌<◌, List, [], ◌∷◌, ◌++◌, length, get_or, slice_get, map, replicate, Option, Some, None, option_map, refl, sym, ap, subst, ◌∙◌, arith}
use Rattle.std.specs.List.{All}
use Rattle.std.proofs.lemmas.List.{append-nil, length-replicate}
use Rattle.std.proofs.Math.ListN.{get_or-map}
use Rattle.std.proofs.lemmas.List.Elements.{All-nil, All-push}
use Rattle.grain_code.specs.InstructionTable.{width_of}
use Rattle.grain_code.specs.Span.{Span}
use Rattle.grain_rules.specs.Accepted.{IsFramed}
use Rattle.grain_verify.specs.Arrivals.{IsAtOrdinal, IsStartIn, coming, sent_by, underway, view}
use Rattle.grain_rules.specs.Counts.{nothing}
use Rattle.grain_rules.specs.Flow.{Falls}
use Rattle.grain_verify.specs.FlowView.{IsFollowed, next_to}
use Rattle.grain_verify.specs.Lists.{IsShared, list_count}
use Rattle.grain_verify.specs.Plain.{IsPlainStep}
use Rattle.grain_verify.specs.Progress.{HaltsAt, IsWalking, NameLists, NamesList, Walking, visits_in}
use Rattle.grain_rules.specs.Typing.{HasTyping, IsDeepest, IsReachedCount}
use Rattle.grain_rules.specs.Code.{coded}
use Rattle.grain_verify.specs.Walk.{IsReady, Walked}
use Rattle.grain_verify.specs.declared.lists.Lists.{Lists}
use Rattle.grain_verify.specs.declared.state.Arrival.{Arrival}
use Rattle.grain_verify.specs.declared.state.State.{State}
use Rattle.grain_verify.specs.declared.walk.Traversal.{Traversal}
use Rattle.grain_verify.specs.States.{no_state as none}
use Rattle.grain_verify.proofs.OperationsByFlow.{nothing_missing}
use Rattle.grain_verify.proofs.ListNumbers.{grows_not, none_named}
use Rattle.grain_verify.proofs.AboveLastBase.{plain_stays}
use Rattle.grain_verify.proofs.TakenArrival.{taken_named}
use Rattle.grain_verify.proofs.VisitStep.{visited}
use Rattle.grain_verify.proofs.WalkIsSearch.{nothing_at, walking_end, walking_start}

-- a plain instruction that is marked leads to the next arrival
pub plain_visited : (p : Walked) (chunk : Span) (lists : Lists) (t : Traversal) (here next : Arrival) (deepest : ℕ) → IsReady p → IsFramed p.code chunk
    → HaltsAt p chunk lists t here deepest → IsPlainStep p.code.bytes lists here next → IsWalking p chunk lists t (t.work.items ++ next ∷ []) deepest
plain_visited p chunk lists t here next deepest ready framed h step =
    let code = p.code in
    let after : State = record here.state { operands = here.state.operands - step.takes + step.gives } in
    let counts = view lists here.state in
    let grows = grows_not lists h.is.known.shared in
    let named = taken_named _ _ h.is in
    let stays = plain_stays code.setting step.op counts step.needs step.takes step.gives step.plain step.above in
    let followed : IsFollowed p.starts chunk code.switches Falls (here.state.operands - step.takes + step.gives) here (width_of step.op) lists lists t.sent t.sent t.work.items
    (t.work.items ++ next_to here (width_of step.op) after ∷ []) =
    record {
      list = here.state.list;
      there = named;
      bases = refl;
      pushed = t.work.items;
      sends = inl (record { starts_in = All-nil (IsStartIn p.starts chunk); added = sym (append-nil (map underway t.work.items)); noted = inl refl });
      at_ordinal = λ all. all;
      all = refl;
    } in
    rw (step.is) (visited p chunk t t here deepest step.op (width_of step.op) ready framed lists lists grows h step.stands refl 0 step.needs step.takes step.gives Falls
    (t.work.items ++ next_to here (width_of step.op) after ∷ []) (sym (step.plain.caps code.setting)) (step.plain.operands code.setting) (sym step.plain.flow)
    (nothing_missing code.setting.caps) step.there (record { iterators = omega arith; handlers = omega arith }) stays followed refl refl)

-- nothing is coming any more
pub walk_ended : {p : Walked} {chunk : Span} {lists : Lists} {t : Traversal} {stack rest : List Arrival} {deepest : ℕ} → stack ≡ rest ++ [] → rest ≡ [] → IsWalking p chunk lists t stack deepest
    → HasTyping (coded p.code) chunk deepest × IsDeepest (coded p.code) chunk deepest × IsReachedCount (coded p.code) chunk (visits_in t.states)
walk_ended {p} {chunk} {lists} {t} {stack} {rest} {deepest} off empty w =
    walking_end (subst (λ (xs : List Arrival). Walking p.code chunk p.starts lists t.states (sent_by lists t.sent) (map (coming lists) xs) deepest) (off ∙ (append-nil rest ∙ empty)) w.walking)

-- the walk begins at the chunk's entry
pub walking_begun : (p : Walked) (chunk : Span) (lists : Lists) (t : Traversal) (entry ordinal n m : ℕ) → IsFramed p.code chunk → chunk.entry < chunk.end
    → entry ≡ chunk.entry → slice_get p.starts ordinal ≡ Some chunk.entry → t.states ≡ replicate n none → t.sent ≡ replicate m none → IsShared lists → list_count lists ≡ 0
    → t.work.items ≡ [] → n ≡ length p.starts → m ≡ length p.code.switches
    → IsWalking p chunk lists t (t.work.items ++ record { at = entry; ordinal = ordinal; state = record { operands = 0; iterators = 0; list = 0 } } ∷ []) 0
walking_begun p chunk lists t entry ordinal n m framed holds named place states sent shared no_lists work long switches =
    let a : Arrival = record { at = entry; ordinal = ordinal; state = record { operands = 0; iterators = 0; list = 0 } } in
    let P = IsAtOrdinal p.starts chunk in
    let N : Arrival → Type 0 = λ b. NamesList lists b.state in
    let alone : t.work.items ++ a ∷ [] ≡ a ∷ [] = ap (λ (xs : List Arrival). xs ++ a ∷ []) work in
    record {
      fits = record {
        states = ap (λ (s : List (Option State)). length s) states ∙ length-replicate n none ∙ long;
        sent = ap (λ (s : List (Option State)). length s) sent ∙ length-replicate m none ∙ switches;
      };
      at_ordinal = subst (All P) (sym alone) (All-push P [] a (All-nil P) (λ l. place ∙ ap (λ (k : ℕ). Some k) (sym named)));
      known = record {
        shared = shared;
        states = subst (NameLists lists) (sym states) (none_named lists n);
        sent = subst (NameLists lists) (sym sent) (none_named lists m);
        waiting = subst (All N) (sym alone) (All-push N [] a (All-nil N) (omega arith));
        few = omega (arith, no_lists);
      };
      walking =
          subst (λ (xs : List Arrival). Walking p.code chunk p.starts lists t.states (sent_by lists t.sent) (map (coming lists) xs) 0) (sym alone)
          (subst (λ (s : List (Option State)). Walking p.code chunk p.starts lists s (sent_by lists t.sent) (coming lists a ∷ []) 0) (sym states)
          (subst (λ at. Walking p.code chunk p.starts lists (replicate n none) (sent_by lists t.sent) ((at, nothing) ∷ []) 0) (sym named)
          (walking_start p.code chunk p.starts lists n (sent_by lists t.sent) framed holds (λ w.
          ap (λ (s : List (Option State)). get_or (sent_by lists s) w None) sent ∙ get_or-map (option_map (view lists)) (replicate m none) w None ∙ ap (option_map (view lists)) (nothing_at m w)))));
    }
