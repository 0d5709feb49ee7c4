-- A turn of the walk: an instruction is visited.
use Rattle.std.proofs.Common.{◌≡◌, ◌+◌, ◌-◌, ◌≤◌, ◌∷◌, ◌++◌, ◌∙◌}
use Rattle.std.proofs.Common.{inl, inr, ℕ, max, cond, Bool, true, false, List, [], length, get_or, set, slice_get, map, Option, Some, None, refl, sym, ap, subst, append_assoc, add-one, arith}
use Rattle.std.specs.List.{All, Contains}
use Rattle.std.proofs.lemmas.List.{append-nil, length-set, map-append, map_push}
use Rattle.std.proofs.lemmas.List.Elements.{All-contains, All-push}
use Rattle.grain_code.specs.InstructionTable.{width_of}
use Rattle.grain_code.specs.Span.{Span}
use Rattle.grain_code.specs.Split.{StandsAt}
use Rattle.grain_code.specs.declared.op.Op.{Op}
use Rattle.grain_rules.specs.Accepted.{IsFramed}
use Rattle.grain_verify.specs.Arrivals.{Coming, IsAtOrdinal, IsStartIn, RefusesSwitch, Sends, all_to, coming, falling, sent_by, underway, view}
use Rattle.grain_rules.specs.Code.{coded}
use Rattle.grain_rules.specs.Counts.{Counts}
use Rattle.grain_rules.specs.Capabilities.{Allows}
use Rattle.grain_rules.specs.Effects.{after_fall, after_jump, operands_after, targets}
use Rattle.grain_verify.specs.FlowView.{IsFollowed, IsMetBy, fallen, falls_to, jumped, next_to}
use Rattle.grain_rules.specs.Flow.{Flow}
use Rattle.grain_rules.specs.Rows.{caps_of, flow_of}
use Rattle.grain_verify.specs.Operands.{stack_effect}
use Rattle.grain_rules.specs.FlowFields.{bases_for, fall_for, falls_for, jump_for, targets_for}
use Rattle.grain_rules.specs.Flaw.{ChunkFlaw}
use Rattle.grain_verify.specs.Graph.{Pending}
use Rattle.grain_verify.specs.Lists.{Grows, list_of, list_count}
use Rattle.grain_verify.specs.Progress.{HaltsAt, IsWalking, KnowsLists, NameLists, NamesList, Walking, visits_in}
use Rattle.grain_rules.specs.Sinking.{Stays}
use Rattle.grain_rules.specs.Typing.{IsInChunk, Passes, onward}
use Rattle.grain_verify.specs.Walk.{IsReady, Walked}
use Rattle.grain_rules.specs.declared.error.VerifyError.{VerifyError}
use Rattle.grain_rules.specs.declared.error.VerifyError.TheVariants as errors
use Rattle.grain_verify.specs.declared.lists.Lists.{Lists}
use Rattle.grain_verify.specs.declared.state.Arrival.{Arrival}
use Rattle.grain_verify.specs.declared.state.State.{State}
use Rattle.grain_verify.specs.declared.walk.Traversal.{Traversal}
use Rattle.grain_rules.proofs.Splits.{in_nil}
use Rattle.grain_verify.proofs.OperationsByFlow.{left_is, passes_known}
use Rattle.grain_verify.proofs.ListNumbers.{all_named_more, arrivals_named_more, fallen_named, jumped_named, named_more, named_set, named_there, view_kept, walking_kept}
use Rattle.grain_verify.proofs.Ordinals.{next_ordinal}
use Rattle.grain_verify.proofs.EdgeTargets.{jumps_to}
use Rattle.grain_verify.proofs.RefusalsAreFlaws.{start_in}
use Rattle.grain_verify.proofs.SentCounts.{come_all, come_none, noted_cases, sends_named, switches_named, unlike_views, view_fallen, view_jumped, was_sent}
use Rattle.grain_verify.proofs.VisitCounts.{visited_more}
use Rattle.grain_verify.proofs.TakenArrival.{left_named, left_placed, taken_inside, taken_known, taken_named, taken_place, taken_reached, taken_walking}
use Rattle.grain_verify.proofs.WalkIsSearch.{JumpsTo, pending_reached, sent_before, walking_visit}

-- the edges of an instruction at which the walk halts are followed, where lists may have been added since
module _ (p : Walked) (chunk : Span) (t new : Traversal) (here : Arrival) (deepest : ℕ) (op : Op) (pushed falls_on : List Arrival) (ready : IsReady p)
    (framed : IsFramed p.code chunk) (old lists : Lists) (grows : Grows old lists) (h : HaltsAt p chunk old t here deepest)
    (passes : Passes (coded p.code) chunk here.at (view lists here.state) op) (falls : map (coming lists) falls_on ≡ falling p.code op here.at (view lists here.state))
    (states : new.states ≡ t.states) (long : length new.sent ≡ length t.sent) (at_ordinal : All (IsAtOrdinal p.starts chunk) (pushed ++ falls_on))
    (sent_named : NameLists lists new.sent) (named : All (λ (a : Arrival). NamesList lists a.state) (pushed ++ falls_on)) where
  marked : new.states ≡ set h.before here.ordinal (Some here.state)
  marked = states ∙ h.marked

  knows : KnowsLists lists new (pushed ++ falls_on)
  knows = record {
    shared = grows.shared;
    states =
        subst (NameLists lists) (sym marked)
        (named_set lists h.before here.ordinal here.state (named_more old lists grows here.state (taken_named _ _ h.is)) (all_named_more old lists grows h.before h.is.known.states));
    sent = sent_named;
    waiting = named;
    few = (
        let more : visits_in new.states ≡ visits_in h.before + 1 = ap visits_in marked ∙ visited_more h.before here.ordinal here.state (taken_known _ _ h.is h.within) h.fresh in
        let few = h.is.known.few in
        let one = grows.few in
        omega (arith, more)
        );
  }

  walking : Walking p.code chunk p.starts lists h.before (sent_by lists t.sent) (map (coming lists) t.work.items ++ coming lists here ∷ []) h.earlier
  walking =
      subst (λ (xs : List Coming). Walking p.code chunk p.starts lists h.before (sent_by lists t.sent) xs h.earlier) (map_push (coming lists) t.work.items here)
      (walking_kept old lists grows p.code chunk p.starts h.before t.sent (t.work.items ++ here ∷ []) h.earlier h.is.known.states h.is.known.sent h.is.known.waiting h.is.walking)

  followed : (jumped : List Coming) → ((x : ℕ) → Contains (targets p.code.switches op) x → IsInChunk (coded p.code) chunk x)
      → JumpsTo p.code op (view lists here.state) (sent_by lists t.sent) (sent_by lists new.sent) (Pending walking.marked (map (coming lists) t.work.items ++ coming lists here ∷ [])) jumped
      → map (coming lists) pushed ≡ map (coming lists) t.work.items ++ jumped → IsWalking p chunk lists new (pushed ++ falls_on) deepest
  followed jumped inside jumps added =
      let code = p.code in
      let work = map (coming lists) t.work.items in
      let come = falling code op here.at (view lists here.state) in
      let walk : List (Option State) → List Coming → ℕ → Type 0 = λ s xs n. Walking code chunk p.starts lists s (sent_by lists new.sent) xs n in
      let before = set h.before here.ordinal (Some here.state) in
      let w = walking_visit work here walking ready.starts h.is.fits.states (taken_place _ _ h.is h.within) h.fresh (record { passes = passes; inside = inside }) jumps in
      let whole : map (coming lists) (pushed ++ falls_on) ≡ work ++ (jumped ++ come) =
      map-append (coming lists) pushed falls_on
      ∙ ap (λ (xs : List Coming). xs ++ map (coming lists) falls_on) added
      ∙ ap (λ (xs : List Coming). (work ++ jumped) ++ xs) falls
      ∙ append_assoc work jumped come in
      record {
        fits = record { states = ap (λ (s : List (Option State)). length s) marked ∙ length-set h.before here.ordinal (Some here.state) ∙ h.is.fits.states; sent = long ∙ h.is.fits.sent };
        at_ordinal = at_ordinal;
        known = knows;
        walking =
            subst (λ (s : List (Option State)). walk s (map (coming lists) (pushed ++ falls_on)) deepest) (sym marked)
            (subst (walk before (map (coming lists) (pushed ++ falls_on))) (sym h.deeper)
            (subst (λ (xs : List Coming). walk before xs (max h.earlier here.state.operands)) (sym whole) w));
      }

  pub turned : (after : State) → view lists after ≡ after_jump p.code.setting op (view lists here.state)
      → Sends p.starts chunk p.code.switches (flow_of op) after t.sent new.sent (map underway t.work.items) (map underway pushed)
      → IsWalking p chunk lists new (pushed ++ falls_on) deepest
  turned after is (inl all) =
      let code = p.code in
      let ts = targets code.switches op in
      let d = after_jump code.setting op (view lists here.state) in
      followed (all_to d ts)
      (λ x k. start_in code p.starts chunk x ready.starts (All-contains (IsStartIn p.starts chunk) ts x all.starts_in k))
      (record {
        sub = λ x k. (jumps_to d ts x).0 k;
        all = λ x j. inl ((jumps_to d ts x).1 j);
        noted = λ v c k. elim (noted_cases lists (flow_of op) t.sent new.sent after all.noted v c k) [ inl old ↦ inl old | inr (flow, same) ↦ inr (flow, same ∙ is) ];
      })
      (come_all lists t.work.items pushed after ts all.added ∙ ap (λ (c : Counts). map (coming lists) t.work.items ++ all_to c ts) is)
  turned after is (inr none) =
      let code = p.code in
      let d = after_jump code.setting op (view lists here.state) in
      let before = was_sent lists t.sent none.switch after none.before ∙ ap (λ (c : Counts). Some c) is in
      let there = λ (x : ℕ) (k : Contains (targets code.switches op) x). sent_before walking none.switch d before x (subst (λ (f : Flow). Contains (targets_for code.switches f) x) none.is k) in
      followed []
      (λ x k. (there x k).0)
      (record {
        sub = λ x k. absurd (in_nil x k);
        all = λ x j. inr (subst (λ (c : Counts). Pending walking.marked (map (coming lists) t.work.items ++ coming lists here ∷ []) (x.0, c)) (sym j.1) (there x.0 j.0).1);
        noted = λ v c k. inl (ap (λ (s : List (Option State)). get_or (sent_by lists s) v None) (sym none.kept) ∙ k);
      })
      (come_none lists t.work.items pushed none.added ∙ sym (append-nil (map (coming lists) t.work.items)))

-- what falls through is at_ordinal
pub falls_placed : (p : Walked) (chunk : Span) (here : Arrival) (op : Op) (s : State) → IsReady p → IsFramed p.code chunk
    → slice_get p.starts here.ordinal ≡ Some here.at → StandsAt p.code.bytes here.at op → IsAtOrdinal p.starts chunk (next_to here (width_of op) s)
falls_placed p chunk here op s ready framed place stands l = elim (next_ordinal p.code.bytes p.starts ready.starts here.ordinal here.at op place stands) [
  | inl e ↦ subst (λ k. slice_get p.starts k ≡ Some (here.at + width_of op)) (sym (add-one here.ordinal)) e
  | inr end ↦ absurd (let f = framed.inside in omega arith)
]

-- what falls through, if it does, as counts
coming_next : (lists : Lists) (b : Bool) (here : Arrival) (s : State) (width next : ℕ) → here.at + width ≡ next → map (coming lists) (cond b (next_to here width s ∷ []) []) ≡ cond b ((next, view lists s) ∷ []) []
coming_next lists true here s width next e = let P : ℕ → List Coming = λ a. (a, view lists s) ∷ [] in ap P e
coming_next lists false here s width next e = refl

-- one arrival more, if it comes, is as all others are
one_more : (P : Arrival → Type 0) (b : Bool) (xs : List Arrival) (a : Arrival) → P a → All P xs → All P (xs ++ cond b (a ∷ []) [])
one_more P true xs a p all = All-push P xs a all p
one_more P false xs a p all = subst (All P) (sym (append-nil xs)) all

-- An instruction that finds what it asks and needs, and stays above the base of the last handler, is visited, where its flow
-- is followed.
module _ (p : Walked) (chunk : Span) (t new : Traversal) (here : Arrival) (deepest : ℕ) (op : Op) (width : ℕ) (ready : IsReady p) (framed : IsFramed p.code chunk)
    (old lists : Lists) (grows : Grows old lists) (h : HaltsAt p chunk old t here deepest) (stands : StandsAt p.code.bytes here.at op) (wide : width ≡ width_of op) where
  next_placed : (s : State) → IsAtOrdinal p.starts chunk (next_to here width s)
  next_placed s =
      subst (λ n. IsAtOrdinal p.starts chunk (next_to here n s)) (sym wide)
      (falls_placed p chunk here op s ready framed (taken_place _ _ h.is h.within) stands)

  visited_here : (caps needs takes gives list : ℕ) (f : Flow) (pushed : List Arrival) → caps ≡ caps_of p.code.setting op
      → (needs, takes, gives) ≡ stack_effect p.code.setting op → f ≡ flow_of op → Allows p.code.setting.caps caps → needs ≤ here.state.operands
      → IsMetBy f (view lists here.state) → Stays p.code.setting op (view lists here.state) → list ≤ list_count lists → list_of lists list ≡ bases_for f (view lists here.state)
      → Sends p.starts chunk p.code.switches f (jumped f (here.state.operands - takes + gives) list here.state) t.sent new.sent (map underway t.work.items) (map underway pushed)
      → new.states ≡ t.states → length new.sent ≡ length t.sent → (All (IsAtOrdinal p.starts chunk) t.work.items → All (IsAtOrdinal p.starts chunk) pushed)
      → IsWalking p chunk lists new (pushed ++ falls_to f (here.state.operands - takes + gives) list here width) deepest
  visited_here caps needs takes gives list f pushed asked known same allowed there met stays in_lists bases sends states long at_ordinal =
      let code = p.code in
      let c = view lists here.state in
      let left = here.state.operands - takes + gives in
      let is : left ≡ operands_after code.setting op here.state.operands = left_is code.setting op needs takes gives here.state.operands known in
      let passes = passes_known code chunk here.at op c caps needs takes gives f (record { within = taken_inside _ _ h.is h.within; is = stands }) asked known same allowed there met stays in
      let sent_state = jumped f left list here.state in
      let next_state = fallen f left list here.state in
      let named = named_more old lists grows here.state (taken_named _ _ h.is) in
      let jump_named = jumped_named lists f left list here.state in_lists named in
      let next_is : view lists next_state ≡ after_fall code.setting op c =
      view_fallen lists left list here.state f bases ∙ (ap (λ (g : Flow). fall_for g left c) same ∙ ap (λ n. fall_for (flow_of op) n c) is) in
      let sent_is : view lists sent_state ≡ after_jump code.setting op c =
      view_jumped lists left list here.state f bases ∙ (ap (λ (g : Flow). jump_for g left c) same ∙ ap (λ n. jump_for (flow_of op) n c) is) in
      let goes =
      coming_next lists (falls_for f) here next_state width (here.at + width_of op) (ap (λ n. here.at + n) wide)
      ∙ (ap (λ (g : Flow). cond (falls_for g) ((here.at + width_of op, view lists next_state) ∷ []) []) same
      ∙ (let P : Counts → List Coming = λ d. cond (falls_for (flow_of op)) ((here.at + width_of op, d) ∷ []) [] in ap P next_is)) in
      let work_named = sends_named lists p.starts chunk code.switches f sent_state t.sent new.sent t.work.items pushed jump_named
      (arrivals_named_more old lists grows t.work.items (left_named _ _ h.is)) sends in
      turned p chunk t new here deepest op pushed (falls_to f left list here width) ready framed old lists grows h passes goes states long
      (one_more (IsAtOrdinal p.starts chunk) (falls_for f) pushed (next_to here width next_state) (next_placed next_state) (at_ordinal (left_placed _ _ h.is)))
      (switches_named lists p.starts chunk code.switches f sent_state t.sent new.sent t.work.items pushed jump_named (all_named_more old lists grows t.sent h.is.known.sent) sends)
      (one_more (λ (a : Arrival). NamesList lists a.state) (falls_for f) pushed (next_to here width next_state) (fallen_named lists f left list here.state in_lists named) work_named)
      sent_state sent_is
      (subst (λ (g : Flow). Sends p.starts chunk code.switches g sent_state t.sent new.sent (map underway t.work.items) (map underway pushed)) same sends)

  -- the same, where what it finds is said of the lists that there were before
  pub visited : (caps needs takes gives : ℕ) (f : Flow) (on_way : List Arrival) → caps ≡ caps_of p.code.setting op
      → (needs, takes, gives) ≡ stack_effect p.code.setting op → f ≡ flow_of op → Allows p.code.setting.caps caps → needs ≤ here.state.operands
      → IsMetBy f (view old here.state) → Stays p.code.setting op (view old here.state)
      → IsFollowed p.starts chunk p.code.switches f (here.state.operands - takes + gives) here width old lists t.sent new.sent t.work.items on_way
      → new.states ≡ t.states → length new.sent ≡ length t.sent → IsWalking p chunk lists new on_way deepest
  visited caps needs takes gives f on_way asked known same allowed there met stays is states long =
      let kept : view old here.state ≡ view lists here.state = sym (view_kept old lists grows here.state (taken_named _ _ h.is)) in
      let w = visited_here caps needs takes gives is.list f is.pushed asked known same allowed there (subst (IsMetBy f) kept met) (subst (Stays p.code.setting op) kept stays)
      is.there (is.bases ∙ ap (bases_for f) kept) is.sends states long is.at_ordinal in
      subst (λ (xs : List Arrival). IsWalking p chunk lists new xs deepest) (sym is.all) w

-- another state than an instruction sends was sent to the targets of its switch before
pub refused_switch : (p : Walked) (chunk : Span) (t : Traversal) (lists : Lists) (here : Arrival) (deepest : ℕ) (op : Op) (needs takes gives : ℕ) (f : Flow) (e : VerifyError)
    → IsFramed p.code chunk → HaltsAt p chunk lists t here deepest → (needs, takes, gives) ≡ stack_effect p.code.setting op → f ≡ flow_of op
    → Passes (coded p.code) chunk here.at (view lists here.state) op
    → RefusesSwitch p.code.switches f (record here.state { operands = here.state.operands - takes + gives }) t.sent e → ChunkFlaw p.code chunk e
refused_switch p chunk t lists here deepest op needs takes gives f (errors.DepthConflict a expected found) framed h known same passes (w, before, is, sent, unlike, named, first, second) =
    let code = p.code in
    let c = view lists here.state in
    let left = here.state.operands - takes + gives in
    let after : State = record here.state { operands = left } in
    let before_named = named_there lists t.sent w before h.is.known.sent sent in
    let here_named = taken_named _ _ h.is in
    let there = sent_before (taken_walking _ _ h.is) w (view lists before) (was_sent lists t.sent w before sent) a named in
    let left_same = left_is code.setting op needs takes gives here.state.operands known in
    let after_is : view lists after ≡ after_jump code.setting op c =
    ap (λ (g : Flow). jump_for g left c) (sym is ∙ same) ∙ ap (λ n. jump_for (flow_of op) n c) left_same in
    let jumps : Contains (targets code.switches op) a = subst (λ (g : Flow). Contains (targets_for code.switches g) a) (sym is ∙ same) named in (
      framed,
      there.0,
      record {
        one = view lists before;
        other = view lists after;
        one_reached = pending_reached (taken_walking _ _ h.is) (a, view lists before) there.1;
        other_reached = onward (taken_reached _ _ h.is) passes (inl (jumps, after_is));
        unlike = unlike_views lists before after h.is.known.shared before_named here_named unlike;
        expected_is = first;
        found_is = second;
      },
    )
refused_switch p chunk t lists here deepest op needs takes gives f e framed h known same passes refused = absurd refused
