-- States that an operation sends, as counts.
use Rattle.std.proofs.Common.{◌≡◌, ◌≢◌, ◌⊎◌, inl, inr, ℕ, List, ◌++◌, get_or, set, map, Option, Some, None, option_map, refl, sym, ap, subst, ◌∙◌}
use Rattle.std.specs.List.{All}
use Rattle.std.proofs.Math.ListN.{get_or-map}
use Rattle.std.proofs.lemmas.List.{map-append, map-set}
use Rattle.std.proofs.lemmas.List.Elements.{All-append}
use Rattle.std.proofs.lemmas.Simd.{map-map}
use Rattle.grain_code.specs.Span.{Span}
use Rattle.grain_verify.specs.Arrivals.{Coming, Sends, Underway, all_to, all_underway, coming, sent_by, underway, view}
use Rattle.grain_rules.specs.Counts.{Base, Counts}
use Rattle.grain_rules.specs.Flow.{Flow, Switches, AdvancesIterator, BeginsIterator, EndsIterator, PopsHandler, PushesHandler}
use Rattle.grain_rules.specs.FlowFields.{bases_for, fall_for, jump_for, targets_for}
use Rattle.grain_verify.specs.FlowView.{fallen, jumped}
use Rattle.grain_verify.specs.Lists.{IsShared, list_of}
use Rattle.grain_verify.specs.Progress.{NameLists, NamesList}
use Rattle.grain_verify.specs.declared.lists.Lists.{Lists}
use Rattle.grain_verify.specs.declared.state.Arrival.{Arrival}
use Rattle.grain_verify.specs.declared.state.State.{State}
use Rattle.grain_verify.proofs.ListNumbers.{arrivals_named, named_set, sent_named, underway_named}
use Rattle.grain_verify.proofs.Places.{set_cases}
use Rattle.grain_verify.proofs.SharedLists.{one_number}

-- other states stand for other counts
pub unlike_views : (lists : Lists) (s t : State) → IsShared lists → NamesList lists s → NamesList lists t → s ≢ t → view lists s ≢ view lists t
unlike_views lists s t shared in_s in_t unlike same =
    let lists_same = one_number lists.nodes.items _ shared.sharing s.list t.list in_s in_t (ap (λ (c : Counts). c.bases) same) in
    let operands : s.operands ≡ t.operands = ap (λ (c : Counts). c.operands) same in
    let iterators : s.iterators ≡ t.iterators = ap (λ (c : Counts). c.iterators) same in
    let e : s ≡ t = (λ i. record { operands = operands i; iterators = iterators i; list = lists_same i }) in
    unlike e

-- what is sent and what falls through stands for the counts on the edges
module _ (lists : Lists) (left list : ℕ) (s : State) where
  abbrev with_bases : List Base → Counts
  with_bases bs = record { operands = s.operands; iterators = s.iterators; bases = bs }

  pub view_jumped : (f : Flow) → list_of lists list ≡ bases_for f (view lists s) → view lists (jumped f left list s) ≡ jump_for f left (view lists s)
  view_jumped (PushesHandler target) e = ap with_bases e
  view_jumped (AdvancesIterator exit) e = refl
  view_jumped f e = refl

  pub view_fallen : (f : Flow) → list_of lists list ≡ bases_for f (view lists s) → view lists (fallen f left list s) ≡ fall_for f left (view lists s)
  view_fallen (PushesHandler target) e = ap with_bases e
  view_fallen PopsHandler e = ap with_bases e
  view_fallen BeginsIterator e = refl
  view_fallen (AdvancesIterator exit) e = refl
  view_fallen EndsIterator e = refl
  view_fallen f e = refl

-- a state under way, as counts
abbrev as_coming : Lists → Underway → Coming
as_coming lists u = (u.at, view lists u.state)

coming_as : (lists : Lists) (xs : List Arrival) → map (as_coming lists) (map underway xs) ≡ map (coming lists) xs
coming_as lists xs = map-map (as_coming lists) underway xs

all_as : (lists : Lists) (s : State) (ts : List ℕ) → map (as_coming lists) (all_underway s ts) ≡ all_to (view lists s) ts
all_as lists s ts = map-map (as_coming lists) (λ (t : ℕ). record { at = t; state = s }) ts

-- arrivals that came to others, as counts
pub come_all : (lists : Lists) (old new : List Arrival) (s : State) (ts : List ℕ) → map underway new ≡ map underway old ++ all_underway s ts → map (coming lists) new ≡ map (coming lists) old ++ all_to (view lists s) ts
come_all lists old new s ts e =
    sym (coming_as lists new)
    ∙ ap (map (as_coming lists)) e
    ∙ map-append (as_coming lists) (map underway old) (all_underway s ts)
    ∙ ap (λ (xs : List Coming). xs ++ map (as_coming lists) (all_underway s ts)) (coming_as lists old)
    ∙ ap (λ (xs : List Coming). map (coming lists) old ++ xs) (all_as lists s ts)

pub come_none : (lists : Lists) (old new : List Arrival) → map underway new ≡ map underway old → map (coming lists) new ≡ map (coming lists) old
come_none lists old new e = sym (coming_as lists new) ∙ ap (map (as_coming lists)) e ∙ coming_as lists old

-- what was sent to a switch, as counts
pub was_sent : (lists : Lists) (sent : List (Option State)) (w : ℕ) (s : State) → get_or sent w None ≡ Some s → get_or (sent_by lists sent) w None ≡ Some (view lists s)
was_sent lists sent w s e = get_or-map (option_map (view lists)) sent w None ∙ ap (option_map (view lists)) e

pub noted_cases : (lists : Lists) (f : Flow) (sent new : List (Option State)) (s : State)
    → (new ≡ sent) ⊎ ((w : ℕ) × (f ≡ Switches w) × (new ≡ set sent w (Some s)))
    → (v : ℕ) (c : Counts) → get_or (sent_by lists new) v None ≡ Some c
    → (get_or (sent_by lists sent) v None ≡ Some c) ⊎ ((f ≡ Switches v) × (c ≡ view lists s))
noted_cases lists f sent new s (inl e) v c k = inl (ap (λ (ss : List (Option State)). get_or (sent_by lists ss) v None) (sym e) ∙ k)
noted_cases lists f sent new s (inr (w, is, e)) v c k =
    let noted = ap (sent_by lists) e ∙ map-set (option_map (view lists)) sent w (Some s) in
    elim (set_cases (sent_by lists sent) w v (view lists s) c (ap (λ (cs : List (Option Counts)). get_or cs v None) (sym noted) ∙ k)) [ inl h ↦ inr (is ∙ ap Switches (sym h.0), sym h.1) | inr old ↦ inl old ]

-- what is sent names a list that there is
module _ (lists : Lists) (starts : List ℕ) (chunk : Span) (switches : List (List ℕ)) (f : Flow) (after : State) (sent new_sent : List (Option State)) (old new : List Arrival) (named : NamesList lists after) where
  pub sends_named : All (λ (a : Arrival). NamesList lists a.state) old → Sends starts chunk switches f after sent new_sent (map underway old) (map underway new) → All (λ (a : Arrival). NamesList lists a.state) new
  sends_named all (inl to_all) =
      let P : Underway → Type 0 = λ u. NamesList lists u.state in
      arrivals_named lists new (subst (All P) (sym to_all.added)
      (All-append P (map underway old) (all_underway after (targets_for switches f)) (underway_named lists old all) (sent_named lists after (targets_for switches f) named)))
  sends_named all (inr to_none) =
      let P : Underway → Type 0 = λ u. NamesList lists u.state in
      arrivals_named lists new (subst (All P) (sym to_none.added) (underway_named lists old all))

  noted_named : NameLists lists sent → (new_sent ≡ sent) ⊎ ((w : ℕ) × (f ≡ Switches w) × (new_sent ≡ set sent w (Some after))) → NameLists lists new_sent
  noted_named all (inl e) = subst (NameLists lists) (sym e) all
  noted_named all (inr (w, is, e)) = subst (NameLists lists) (sym e) (named_set lists sent w after named all)

  pub switches_named : NameLists lists sent → Sends starts chunk switches f after sent new_sent (map underway old) (map underway new) → NameLists lists new_sent
  switches_named all (inl to_all) = noted_named all to_all.noted
  switches_named all (inr to_none) = subst (NameLists lists) (sym to_none.kept) all
