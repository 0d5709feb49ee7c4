-- A search of any graph by a worklist.
use Rattle.std.proofs.Common.{◌≡◌, ◌≢◌, ◌↔◌, ◌⊎◌, inl, inr, ℕ, ◌≤◌, suc, Bool, true, false, List, [], ◌∷◌, ◌++◌, length, Option, Some, None, refl, sym, subst, arith}
use Rattle.std.specs.Cmp.{IsEquivalence}
use Rattle.std.specs.List.{AllByRecursion, Contains, IsDistinct}
use Rattle.std.specs.Map.{keys_of, lookup}
use Rattle.std.proofs.lemmas.List.Elements.{Contains-append_cases, Contains-append_left, Contains-append_right, Contains-push, Contains-push_cases}
use Rattle.std.proofs.lemmas.Map.Keys.{IsDistinct-cons}
use Rattle.std.proofs.lemmas.Map.Views.{Contains-from_lookup, Contains-keys_from_lookup, IsSome-lookup_from_Contains, lookup-from_Contains}
use Rattle.std.specs.Option.{IsSome}
use Rattle.grain_rules.proofs.Splits.{in_nil, in_cons, in_head, in_tail}
use Rattle.grain_verify.specs.Graph.{IsSearch, Path, Pending, along, at_start}

module _ {P : Type 0} (eq : P → P → Bool) where
  none_distinct : IsDistinct eq []
  unfolding IsDistinct
  none_distinct = tt

  unlike : ((p q : P) → eq p q ≡ true → p ≡ q) → (p q : P) (b : Bool) → eq p q ≡ b → p ≢ q → b ≡ false
  unlike exact p q true e ne = absurd (ne (exact p q e))
  unlike exact p q false e ne = refl

  unlike_all : {V : Type 0} → ((p q : P) → eq p q ≡ true → p ≡ q) → (p : P) (es : List (P × V)) → ((v : V) → Contains es (p, v) → ⊥) → AllByRecursion (λ q. eq p q ≡ false) (keys_of es)
  unlike_all exact p [] fresh = tt
  unlike_all exact p (e ∷ es) fresh = (
    unlike exact p e.0 (eq p e.0) refl (λ same. fresh e.1 (subst (λ (q : P). Contains (e ∷ es) (q, e.1)) (sym same) (in_head e es))),
    unlike_all exact p es (λ v c. fresh v (in_tail e es (p, v) c)),
  )

module _ {P V : Type 0} {eq : P → P → Bool} {start : P × V} {Edge : P × V → P × V → Type 0} where
  -- before the first turn
  pub search_begun : IsSearch eq start Edge [] (start ∷ [])
  search_begun = record {
    once = none_distinct eq;
    started = inr (in_head start []);
    reached = λ x h. elim h [
      | inl c ↦ absurd (in_nil x c)
      | inr c ↦ elim (in_cons start [] x c) [ inl e ↦ (0, omega arith, subst (Path start Edge 0) e at_start) | inr k ↦ absurd (in_nil x k) ]
    ];
    closed = λ x y c e. absurd (in_nil x c);
  }

  -- a turn, which takes a state off the worklist
  module _ {marked : List (P × V)} (work : List (P × V)) (a : P × V) (s : IsSearch eq start Edge marked (work ++ a ∷ [])) where
    -- what was pending is, where that state is marked in the end and more may have come
    still : (marked' work' : List (P × V)) → ((x : P × V) → Contains marked x → Contains marked' x) → ((x : P × V) → Contains work x → Contains work' x)
        → Contains marked' a → (x : P × V) → Pending marked (work ++ a ∷ []) x → Pending marked' work' x
    still marked' work' more waits here x (inl k) = inl (more x k)
    still marked' work' more waits here x (inr k) = elim (Contains-push_cases work a x k) [ inl c ↦ inr (waits x c) | inr same ↦ inl (subst (Contains marked') same here) ]

    -- it was marked before
    pub search_skipped : Contains marked a → IsSearch eq start Edge marked work
    search_skipped here =
        let left = still marked work (λ x k. k) (λ x k. k) here in
        record {
          once = s.once;
          started = left start s.started;
          reached = λ x h. s.reached x (elim h [ inl k ↦ inl k | inr k ↦ inr (Contains-append_left work (a ∷ []) x k) ]);
          closed = λ x y k e. left y (s.closed x y k e);
        }

    -- it is marked at a place where none was, and each of its edges leads to what comes, or to what was pending
    pub search_visited : (come : List (P × V)) → ((p q : P) → eq p q ≡ true → p ≡ q) → ((v : V) → Contains marked (a.0, v) → ⊥)
        → ((x : P × V) → Contains come x → Edge a x)
        → ((x : P × V) → Edge a x → Contains come x ⊎ Pending marked (work ++ a ∷ []) x)
        → IsSearch eq start Edge (a ∷ marked) (work ++ come)
    search_visited come exact fresh sub all =
        let moved = still (a ∷ marked) (work ++ come) (in_tail a marked) (Contains-append_left work come) (in_head a marked) in
        let before : (x : P × V) → Pending marked (work ++ a ∷ []) x → (n : ℕ) × (n ≤ length (a ∷ marked)) × Path start Edge n x =
        λ x h. (let (n, few, p) = s.reached x h in (n, omega (arith, few), p)) in
        let here : Pending marked (work ++ a ∷ []) a = inr (Contains-push work a) in
        record {
          once = IsDistinct-cons eq a.0 (keys_of marked) (unlike_all eq exact a.0 marked fresh) s.once;
          started = moved start s.started;
          reached = λ x h. elim h [
            | inl c ↦ elim (in_cons a marked x c) [ inl same ↦ before x (subst (Pending marked (work ++ a ∷ [])) same here) | inr k ↦ before x (inl k) ]
            | inr c ↦ elim (Contains-append_cases work come x c) [
              | inl k ↦ before x (inr (Contains-append_left work (a ∷ []) x k))
              | inr k ↦ let (n, few, p) = s.reached a here in (suc n, omega (arith, few), along p (sub x k))
            ]
          ];
          closed = λ x y c e. elim (in_cons a marked x c) [
            | inl same ↦ elim (all y (subst (λ (z : P × V). Edge z y) (sym same) e)) [ inl k ↦ inr (Contains-append_right work come y k) | inr p ↦ moved y p ]
            | inr k ↦ moved y (s.closed x y k e)
          ];
        }

  -- After the last turn what was marked is a typing that is closed along edges, and its places are just those that are reached.
  module _ (laws : IsEquivalence eq) (exact : (p q : P) → eq p q ≡ true → p ≡ q) {marked : List (P × V)} (s : IsSearch eq start Edge marked []) where
    settled : (x : P × V) → Pending marked [] x → lookup (eq x.0) marked ≡ Some x.1
    settled x h = lookup-from_Contains laws x.0 x.1 marked s.once (elim h [ inl k ↦ k | inr k ↦ absurd (in_nil x k) ])

    pub search_starts : lookup (eq start.0) marked ≡ Some start.1
    search_starts = settled start s.started

    pub search_closed : (x y : P × V) → lookup (eq x.0) marked ≡ Some x.1 → Edge x y → lookup (eq y.0) marked ≡ Some y.1
    search_closed x y e j = settled y (s.closed x y (Contains-from_lookup exact x.0 x.1 marked e) j)

    search_covers : (l : ℕ) (x : P × V) → Path start Edge l x → lookup (eq x.0) marked ≡ Some x.1
    search_covers l x at_start = search_starts
    search_covers l y (along {n} {x} p e) = search_closed x y (search_covers n x p) e

    pub search_places : (p : P) → Contains (keys_of marked) p ↔ ((v : V) × (n : ℕ) × Path start Edge n (p, v))
    search_places p = (
      λ c. (
          let (v, e) = value (lookup (eq p) marked) (IsSome-lookup_from_Contains laws p marked c) in
          let (n, few, path) = s.reached (p, v) (inl (Contains-from_lookup exact p v marked e)) in
          (v, n, path)
          ),
      λ h. (let (v, n, path) = h in Contains-keys_from_lookup exact p marked (subst (λ (o : Option V). IsSome o) (sym (search_covers n (p, v) path)) refl)),
    )
      where
        value : (o : Option V) → IsSome o → (v : V) × (o ≡ Some v)
        value (Some v) h = (v, refl)
        value None h = absurd (cc)
