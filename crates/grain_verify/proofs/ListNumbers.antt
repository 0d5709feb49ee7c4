-- States that name lists of bases, while lists are added.
use Rattle.std.proofs.Common.{◌≡◌, ℕ, suc, ◌≤◌, inl, inr, List, [], ◌∷◌, length, get_or, set, map, replicate, Option, Some, None, option_map, IfSome, refl, sym, ap, subst, ◌∙◌, arith}
use Rattle.std.specs.List.{All}
use Rattle.std.proofs.lemmas.Bool.{cases_lt}
use Rattle.std.proofs.lemmas.List.{get_or_past, length-map}
use Rattle.std.proofs.lemmas.List.Elements.{All-map, All-replicate, All-set, All-weaker}
use Rattle.std.proofs.Math.ListN.{get_or-map}
use Rattle.grain_code.specs.Span.{Span}
use Rattle.grain_verify.specs.Arrivals.{Coming, Underway, all_underway, coming, sent_by, underway, view}
use Rattle.grain_rules.specs.Code.{Bytecode}
use Rattle.grain_rules.specs.Counts.{Base, Counts}
use Rattle.grain_rules.specs.Flow as flows
use Rattle.grain_verify.specs.FlowView.{fallen, jumped}
use Rattle.grain_verify.specs.Lists.{Grows, IsShared, list_count}
use Rattle.grain_verify.specs.Progress.{NameLists, NamesList, Walking}
use Rattle.grain_verify.specs.States.{no_state as none}
use Rattle.grain_verify.specs.declared.lists.Lists.{Lists}
use Rattle.grain_verify.specs.declared.state.Arrival.{Arrival}
use Rattle.grain_verify.specs.declared.state.State.{State}

-- lists to which none comes
pub grows_not : (lists : Lists) → IsShared lists → Grows lists lists
grows_not lists shared = record { shared = shared; more = omega arith; few = omega arith; kept = λ n l. refl }

-- two functions that agree on each element
map_same : {A B : Type 0} (f g : A → B) (P : A → Type 0) → ((x : A) → P x → f x ≡ g x) → (xs : List A) → All P xs → map f xs ≡ map g xs
map_same f g P same [] all = refl
map_same {A} {B} f g P same (x ∷ xs) all =
    ap (λ (y : B). y ∷ map f xs) (same x (all 0 x (omega arith)))
    ∙ ap (λ (ys : List B). g x ∷ ys) (map_same f g P same xs (λ k d l. all (suc k) d (omega arith)))

-- what a state of the list names
pub named_at : (lists : Lists) (states : List (Option State)) (k : ℕ) → NameLists lists states → IfSome (get_or states k None) (NamesList lists)
named_at lists states k named = elim (cases_lt k (length states)) [
  | inl l ↦ named k None l
  | inr g ↦ subst (λ (o : Option State). IfSome o (NamesList lists)) (sym (get_or_past states k None g)) tt
]

pub named_there : (lists : Lists) (states : List (Option State)) (k : ℕ) (s : State) → NameLists lists states → get_or states k None ≡ Some s → NamesList lists s
named_there lists states k s named e = subst (λ (o : Option State). IfSome o (NamesList lists)) e (named_at lists states k named)

pub named_set : (lists : Lists) (states : List (Option State)) (k : ℕ) (s : State) → NamesList lists s → NameLists lists states → NameLists lists (set states k (Some s))
named_set lists states k s named all = All-set (λ (o : Option State). IfSome o (NamesList lists)) states k (Some s) named all

pub none_named : (lists : Lists) (n : ℕ) → NameLists lists (replicate n none)
none_named lists n = All-replicate (λ (o : Option State). IfSome o (NamesList lists)) n none tt

-- arrivals name lists where the states do that are under way
pub arrivals_named : (lists : Lists) (xs : List Arrival) → All (λ (u : Underway). NamesList lists u.state) (map underway xs) → All (λ (a : Arrival). NamesList lists a.state) xs
arrivals_named lists xs named k d l =
    subst (λ (u : Underway). NamesList lists u.state) (get_or-map underway xs k d) (named k (underway d) (let e = length-map xs underway in omega arith))

pub underway_named : (lists : Lists) (xs : List Arrival) → All (λ (a : Arrival). NamesList lists a.state) xs → All (λ (u : Underway). NamesList lists u.state) (map underway xs)
underway_named lists xs named = All-map (λ (u : Underway). NamesList lists u.state) underway xs named

pub sent_named : (lists : Lists) (s : State) (ts : List ℕ) → NamesList lists s → All (λ (u : Underway). NamesList lists u.state) (all_underway s ts)
sent_named lists s ts named = All-map (λ (u : Underway). NamesList lists u.state) (λ (t : ℕ). record { at = t; state = s }) ts (λ k d l. named)

pub jumped_named : (lists : Lists) (f : flows.Flow) (left list : ℕ) (s : State) → list ≤ list_count lists → NamesList lists s → NamesList lists (jumped f left list s)
jumped_named lists (flows.PushesHandler target) left list s l named = l
jumped_named lists f left list s l named = named

pub fallen_named : (lists : Lists) (f : flows.Flow) (left list : ℕ) (s : State) → list ≤ list_count lists → NamesList lists s → NamesList lists (fallen f left list s)
fallen_named lists (flows.PushesHandler target) left list s l named = l
fallen_named lists flows.PopsHandler left list s l named = l
fallen_named lists f left list s l named = named

-- lists came to them
module _ (old new : Lists) (grows : Grows old new) where
  pub named_more : (s : State) → NamesList old s → NamesList new s
  named_more s named = let m = grows.more in omega arith

  pub all_named_more : (states : List (Option State)) → NameLists old states → NameLists new states
  all_named_more states named = All-weaker (λ (o : Option State). IfSome o (NamesList old)) (λ (o : Option State). IfSome o (NamesList new)) more states named
    where
      more : (o : Option State) → IfSome o (NamesList old) → IfSome o (NamesList new)
      more None h = tt
      more (Some s) h = named_more s h

  pub arrivals_named_more : (xs : List Arrival) → All (λ (a : Arrival). NamesList old a.state) xs → All (λ (a : Arrival). NamesList new a.state) xs
  arrivals_named_more xs named = All-weaker (λ (a : Arrival). NamesList old a.state) (λ (a : Arrival). NamesList new a.state) (λ a h. named_more a.state h) xs named

  -- a state stands for what it stood for
  pub view_kept : (s : State) → NamesList old s → view new s ≡ view old s
  view_kept s named = let P : List Base → Counts = λ bs. record { operands = s.operands; iterators = s.iterators; bases = bs } in ap P (grows.kept s.list named)

  seen_kept : (o : Option State) → IfSome o (NamesList old) → option_map (view new) o ≡ option_map (view old) o
  seen_kept None named = refl
  seen_kept (Some s) named = ap (λ (c : Counts). Some c) (view_kept s named)

  sent_kept : (states : List (Option State)) → NameLists old states → sent_by new states ≡ sent_by old states
  sent_kept states named = map_same (option_map (view new)) (option_map (view old)) (λ (o : Option State). IfSome o (NamesList old)) seen_kept states named

  coming_kept : (xs : List Arrival) → All (λ (a : Arrival). NamesList old a.state) xs → map (coming new) xs ≡ map (coming old) xs
  coming_kept xs named = map_same (coming new) (coming old) (λ (a : Arrival). NamesList old a.state) (λ a h. (let P : Counts → Coming = λ c. (a.at, c) in ap P (view_kept a.state h))) xs named

  pub walking_kept : (code : Bytecode) (chunk : Span) (starts : List ℕ) (states sent : List (Option State)) (arrivals : List Arrival) (deepest : ℕ) → NameLists old states
      → NameLists old sent → All (λ (a : Arrival). NamesList old a.state) arrivals → Walking code chunk starts old states (sent_by old sent) (map (coming old) arrivals) deepest
      → Walking code chunk starts new states (sent_by new sent) (map (coming new) arrivals) deepest
  walking_kept code chunk starts states sent arrivals deepest named_states named_sent named_arrivals w =
      subst (λ (xs : List Coming). Walking code chunk starts new states (sent_by new sent) xs deepest) (sym (coming_kept arrivals named_arrivals))
      (subst (λ (ss : List (Option Counts)). Walking code chunk starts new states ss (map (coming old) arrivals) deepest) (sym (sent_kept sent named_sent))
      (record {
        marked = w.marked;
        search = w.search;
        listed = λ x. (
          λ c. (let (k, s, e, f, g) = (w.listed x).0 c in (k, s, e, f, g ∙ sym (view_kept s (named_there old states k s named_states f)))),
          λ h. (let (k, s, e, f, g) = h in (w.listed x).1 (k, s, e, f, g ∙ view_kept s (named_there old states k s named_states f))),
        );
        count = w.count;
        known = w.known;
      }))
