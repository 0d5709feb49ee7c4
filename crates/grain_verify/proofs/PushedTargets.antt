-- Pushing one state to many targets.
use Rattle.std.proofs.Common.{◌≡◌, ℕ, inl, inr, List, [], ◌∷◌, ◌++◌, map, sym, ap, subst, ◌∙◌, append_assoc}
use Rattle.std.specs.List.{Contains}
use Rattle.std.proofs.lemmas.List.{append-nil, map-append, map_push}
use Rattle.std.proofs.lemmas.List.Elements.{All-append, All-cons, All-nil, All-push, Contains-append_left, Contains-append_right}
use Rattle.grain_code.specs.Span.{Span}
use Rattle.grain_verify.specs.Arrivals.{IsAtOrdinal, IsStartIn, Pushes, RefusesTargetOf, Underway, all_underway, underway}
use Rattle.grain_rules.specs.declared.error.VerifyError.{VerifyError}
use Rattle.grain_verify.specs.declared.state.Arrival.{Arrival}
use Rattle.grain_verify.specs.declared.state.State.{State}

-- an arrival pushed
pub pushed_one : (starts : List ℕ) (chunk : Span) (work : List Arrival) (a : Arrival) (t : ℕ) (s : State)
    → underway a ≡ record { at = t; state = s } → IsStartIn starts chunk t → IsAtOrdinal starts chunk a → Pushes starts chunk s (t ∷ []) work (work ++ a ∷ [])
pushed_one starts chunk work a t s arrives inside at_ordinal = record {
  starts_in = All-cons (IsStartIn starts chunk) t [] inside (All-nil (IsStartIn starts chunk));
  added = map_push underway work a ∙ ap (λ (u : Underway). map underway work ++ u ∷ []) arrives;
  at_ordinal = λ all. All-push (IsAtOrdinal starts chunk) work a all at_ordinal;
}

-- the state is pushed to some of these targets, in their order, and the others are left
pub record PushesUpTo (starts : List ℕ) (chunk : Span) (s : State) (all left : List ℕ) (old new : List Arrival) : Type 0 where
  pub done : List ℕ
  pub in_order : done ++ left ≡ all
  pub pushes : Pushes starts chunk s done old new

pub none_pushed : (starts : List ℕ) (chunk : Span) (s : State) (all left : List ℕ) (work : List Arrival) → left ≡ all → PushesUpTo starts chunk s all left work work
none_pushed starts chunk s all left work e = record { done = []; in_order = e; pushes = record { starts_in = All-nil (IsStartIn starts chunk); added = sym (append-nil (map underway work)); at_ordinal = λ h. h } }

-- one more is pushed
pub one_pushed : (starts : List ℕ) (chunk : Span) (s : State) (all left ts : List ℕ) (x : ℕ) (old work new : List Arrival)
    → left ≡ x ∷ ts → PushesUpTo starts chunk s all left old work → Pushes starts chunk s (x ∷ []) work new → PushesUpTo starts chunk s all ts old new
one_pushed starts chunk s all left ts x old work new e so_far more = record {
  done = so_far.done ++ x ∷ [];
  in_order = append_assoc so_far.done (x ∷ []) ts ∙ (ap (λ (ys : List ℕ). so_far.done ++ ys) (sym e) ∙ so_far.in_order);
  pushes = record {
    starts_in = All-append (IsStartIn starts chunk) so_far.done (x ∷ []) so_far.pushes.starts_in more.starts_in;
    added =
        more.added
        ∙ (ap (λ (ys : List Underway). ys ++ all_underway s (x ∷ [])) so_far.pushes.added
        ∙ (append_assoc (map underway old) (all_underway s so_far.done) (all_underway s (x ∷ []))
        ∙ ap (λ (ys : List Underway). map underway old ++ ys) (sym (map-append (λ (t : ℕ). record { at = t; state = s }) so_far.done (x ∷ [])))));
    at_ordinal = λ h. more.at_ordinal (so_far.pushes.at_ordinal h);
  };
}

-- none is left
pub all_pushed : (starts : List ℕ) (chunk : Span) (s : State) (all : List ℕ) (old new : List Arrival) → PushesUpTo starts chunk s all [] old new → Pushes starts chunk s all old new
all_pushed starts chunk s all old new up = subst (λ (ts : List ℕ). Pushes starts chunk s ts old new) (sym (append-nil up.done) ∙ up.in_order) up.pushes

-- the next one is refused
pub next_refused : (starts : List ℕ) (chunk : Span) (s : State) (at : ℕ) (all left ts : List ℕ) (x : ℕ) (old work : List Arrival) (e : VerifyError)
    → left ≡ x ∷ ts → PushesUpTo starts chunk s all left old work → RefusesTargetOf starts chunk at (x ∷ []) e → RefusesTargetOf starts chunk at all e
next_refused starts chunk s at all left ts x old work e is so_far (inl m) = inl m
next_refused starts chunk s at all left ts x old work e is so_far (inr r) =
    let in_order = ap (λ (ys : List ℕ). so_far.done ++ ys) (sym is) ∙ so_far.in_order in
    inr (r.0, subst (λ (ys : List ℕ). Contains ys r.0) in_order (Contains-append_right so_far.done (x ∷ ts) r.0 (Contains-append_left (x ∷ []) ts r.0 r.1)), r.2)
