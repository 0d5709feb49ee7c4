-- How the flow of an instruction is followed, or refused.
use Rattle.std.proofs.Common.{◌≡◌, ◌⊎◌, inl, inr, ℕ, ◌<◌, ◌≤◌, List, [], ◌∷◌, ◌++◌, length, map, zero, suc, Option, refl, sym, ap, subst, ◌∙◌, arith}
use Rattle.std.specs.List.{All}
use Rattle.std.proofs.lemmas.List.{append-nil}
use Rattle.std.proofs.lemmas.List.Elements.{All-nil}
use Rattle.grain_code.specs.Span.{Span}
use Rattle.grain_verify.specs.Arrivals.{IsAtOrdinal, IsStartIn, Pushes, RefusesSwitch, RefusesTargetOf, Sends, all_underway, underway, view}
use Rattle.grain_rules.specs.Counts.{Counts}
use Rattle.grain_rules.specs.FlowFields.{bases_for, targets_for}
use Rattle.grain_verify.specs.FlowView.{IsFollowed, IsMetBy, RefusesFlow, falls_to, jumped, next_to}
use Rattle.grain_rules.specs.EffectView.{flow}
use Rattle.grain_verify.specs.Lists.{list_of, list_count}
use Rattle.grain_code.specs.declared.flow.Flow.{Flow}
use Rattle.grain_code.specs.declared.flow.Flow.TheVariants as ways
use Rattle.grain_rules.specs.declared.error.VerifyError.{VerifyError}
use Rattle.grain_rules.specs.declared.error.VerifyError.TheVariants as errors
use Rattle.grain_verify.specs.declared.lists.Lists.{Lists}
use Rattle.grain_verify.specs.declared.state.Arrival.{Arrival}
use Rattle.grain_verify.specs.declared.state.State.{State}

-- a flow that finds what it needs is refused at its targets
pub refused_there : (starts : List ℕ) (chunk : Span) (switches : List (List ℕ)) (at : ℕ) (c : Counts) (after : State) (sent : List (Option State)) (way is : Flow) (target : ℕ) (e : VerifyError)
    → way ≡ is → IsMetBy (flow is target) c → RefusesTargetOf starts chunk at (targets_for switches (flow is target)) e ⊎ RefusesSwitch switches (flow is target) after sent e
    → RefusesFlow starts chunk switches at c after sent (flow way target) e
refused_there starts chunk switches at c after sent way is target e same met refused =
    subst (λ (w : Flow). RefusesFlow starts chunk switches at c after sent (flow w target) e) (sym same) (inr (met, refused))

-- an iterator is refused that isn't there, or its exit
pub ended_refused : (starts : List ℕ) (chunk : Span) (switches : List (List ℕ)) (at : ℕ) (c : Counts) (after : State) (sent : List (Option State)) (way : Flow) (target : ℕ) (e : VerifyError)
    → way ≡ ways.AdvancesIterator → (e ≡ errors.IteratorUnderflow at) × (c.iterators < 1) ⊎ (1 ≤ c.iterators) × RefusesTargetOf starts chunk at (target ∷ []) e
    → RefusesFlow starts chunk switches at c after sent (flow way target) e
ended_refused starts chunk switches at c after sent way target e same (inl (is, none)) =
    let P : Flow → VerifyError → Type 0 = λ w r. RefusesFlow starts chunk switches at c after sent (flow w target) r in
    subst (λ (w : Flow). P w e) (sym same) (subst (P ways.AdvancesIterator) (sym is) (inl (refl, none)))
ended_refused starts chunk switches at c after sent way target e same (inr (there, refused)) =
    refused_there starts chunk switches at c after sent way ways.AdvancesIterator target e same (record { iterators = there; handlers = omega arith }) (inl refused)

-- an arrival that falls through, with the state that falls
pub goes_on : (work : List Arrival) (here next : Arrival) (width : ℕ) (s fallen : State) → next ≡ next_to here width s → s ≡ fallen → work ++ next ∷ [] ≡ work ++ next_to here width fallen ∷ []
goes_on work here next width s fallen is same = ap (λ (a : Arrival). work ++ a ∷ []) (is ∙ ap (next_to here width) same)

-- a flow is followed, where the armed handlers have this list then
module _ (starts : List ℕ) (chunk : Span) (switches : List (List ℕ)) (left : ℕ) (here : Arrival) (width : ℕ) (old new : Lists) (sent : List (Option State)) (work : List Arrival)
    (way is : Flow) (target : ℕ) (same : way ≡ is) (list : ℕ) (there : list ≤ list_count new) (bases : list_of new list ≡ bases_for (flow is target) (view old here.state)) where
  abbrev OnWay : List Arrival → List Arrival → Type 0
  OnWay pushed on_way = on_way ≡ pushed ++ falls_to (flow is target) left list here width

  pub followed : (new_sent : List (Option State)) (pushed on_way : List Arrival)
      → Sends starts chunk switches (flow is target) (jumped (flow is target) left list here.state) sent new_sent (map underway work) (map underway pushed)
      → (All (IsAtOrdinal starts chunk) work → All (IsAtOrdinal starts chunk) pushed) → OnWay pushed on_way
      → IsFollowed starts chunk switches (flow way target) left here width old new sent new_sent work on_way
  followed new_sent pushed on_way sends at_ordinal all =
      subst (λ (w : Flow). IsFollowed starts chunk switches (flow w target) left here width old new sent new_sent work on_way) (sym same)
      (record { list = list; there = there; bases = bases; pushed = pushed; sends = sends; at_ordinal = at_ordinal; all = all })

  -- it has no target
  pub followed_on : (on_way : List Arrival) → targets_for switches (flow is target) ≡ [] → OnWay work on_way → IsFollowed starts chunk switches (flow way target) left here width old new sent sent work on_way
  followed_on on_way none all =
      followed sent work on_way (inl (record {
        starts_in = subst (All (IsStartIn starts chunk)) (sym none) (All-nil (IsStartIn starts chunk));
        added = subst (λ (ts : List ℕ). map underway work ≡ map underway work ++ all_underway (jumped (flow is target) left list here.state) ts) (sym none) (sym (append-nil (map underway work)));
        noted = inl refl;
      })) (λ h. h) all

  -- it has one, and this state was pushed to it
  pub followed_to : (pushed on_way : List Arrival) (s : State) → targets_for switches (flow is target) ≡ target ∷ []
      → s ≡ jumped (flow is target) left list here.state → Pushes starts chunk s (target ∷ []) work pushed → OnWay pushed on_way → IsFollowed starts chunk switches (flow way target) left
      here width old new sent sent work on_way
  followed_to pushed on_way s one after pushes all =
      let p = subst (λ (ts : List ℕ). Pushes starts chunk (jumped (flow is target) left list here.state) ts work pushed) (sym one) (subst (λ (a : State). Pushes starts chunk a (target ∷ []) work pushed) after pushes) in
      followed sent pushed on_way (inl (record { starts_in = p.starts_in; added = p.added; noted = inl refl })) p.at_ordinal all

-- a list with a number has a base
pub some_list : (lists : Lists) (n : ℕ) → 0 < n → 1 ≤ length (list_of lists n)
some_list lists zero l = absurd (omega arith)
some_list lists (suc k) l = omega arith
