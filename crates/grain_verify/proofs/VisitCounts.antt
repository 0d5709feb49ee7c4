-- No more addresses are visited than there are.
use Rattle.std.proofs.Common.{◌≡◌, ◌+◌, ◌-◌, ◌<◌, ◌≤◌, ◌&&◌, ◌∷◌, ◌∙◌}
use Rattle.std.proofs.Common.{inl, inr, ℕ, suc, Bool, true, cond, nat_le, nat_lt, List, [], length, get_or, set, slice_get, replicate, Option, Some, None, refl, sym, ap, subst, arith}
use Rattle.std.specs.List.{count_by}
use Rattle.std.specs.Option.{is_some}
use Rattle.std.proofs.lemmas.Bool.Decides.{nat_tests}
use Rattle.std.proofs.lemmas.List.{length-set}
use Rattle.std.proofs.lemmas.List.Folds.{sum_by-replicate}
use Rattle.std.proofs.lemmas.List.Sums.{sum_by-cons, sum_by-set}
use Rattle.std.proofs.lemmas.Option.{same_Some, slice_get_within}
use Rattle.grain_code.specs.Span.{Span}
use Rattle.grain_code.specs.InstructionTable.{width_of}
use Rattle.grain_code.specs.Split.{Split}
use Rattle.grain_rules.specs.Code.{Bytecode, coded}
use Rattle.grain_rules.specs.Counts.{Counts}
use Rattle.grain_rules.specs.Typing.{IsInChunk}
use Rattle.grain_rules.proofs.Splits.{SplitsFrom, split_splits, width_pos}
use Rattle.grain_verify.specs.Arrivals.{Coming, view}
use Rattle.grain_verify.specs.Meter.{starts_within}
use Rattle.grain_verify.specs.Progress.{Walking, visits_in}
use Rattle.grain_verify.specs.States.{no_state as none}
use Rattle.grain_verify.specs.declared.lists.Lists.{Lists}
use Rattle.grain_verify.specs.declared.state.Arrival.{Arrival}
use Rattle.grain_verify.specs.declared.state.State.{State}
use Rattle.grain_verify.proofs.Places.{set_cases}

abbrev one_if_some : Option State → ℕ
one_if_some o = cond (is_some o) 1 0

-- a state more is a visit more
pub visited_more : (states : List (Option State)) (k : ℕ) (s : State) → k < length states → get_or states k None ≡ None → visits_in (set states k (Some s)) ≡ visits_in states + 1
visited_more states k s inside fresh =
    let h = sum_by-set one_if_some states k (Some s) None inside in
    let e : one_if_some (get_or states k None) ≡ 0 = ap one_if_some fresh in
    omega (arith, h, e)

pub visits_nothing : (n : ℕ) → visits_in (replicate n none) ≡ 0
visits_nothing n = omega (arith, sum_by-replicate one_if_some n none)

-- where each start that has a state passes a test, no more have one than pass
few : (test : ℕ → Bool) (starts : List ℕ) (states : List (Option State)) → length states ≡ length starts
    → ((k at : ℕ) (s : State) → slice_get starts k ≡ Some at → get_or states k None ≡ Some s → test at ≡ true) → visits_in states ≤ count_by test starts
few test [] [] long h = omega arith
few test [] (o ∷ states) long h = absurd (omega arith)
few test (x ∷ starts) [] long h = omega arith
few test (x ∷ starts) (o ∷ states) long h =
    let more = few test starts states (omega (arith, long)) (λ k. h (suc k)) in
    let one = first o (h 0 x) in
    omega (arith, more, one, sum_by-cons one_if_some o states, sum_by-cons (λ (y : ℕ). cond (test y) 1 0) x starts)
  where
    first : (o : Option State) → ((s : State) → Some x ≡ Some x → o ≡ Some s → test x ≡ true) → one_if_some o ≤ cond (test x) 1 0
    first None h = omega arith
    first (Some s) h = let e : cond (test x) 1 0 ≡ 1 = ap (λ (b : Bool). cond {A = ℕ} b 1 0) (h s refl refl) in omega (arith, e)

-- a chunk has no more starts than addresses
starts_few : (code : List ℕ) (chunk : Span) (at : ℕ) (starts : List ℕ) → SplitsFrom code at starts → starts_within starts chunk ≤ chunk.end - at
starts_few code chunk at [] h = omega arith
starts_few code chunk at (x ∷ xs) (e, l, (op, i, h)) =
    let more = starts_few code chunk (at + width_of op) xs h in
    let w = width_pos op in
    let one : cond (nat_le chunk.entry x && nat_lt x chunk.end) 1 0 ≤ chunk.end - x = grind (arith, nat_tests) in
    let most : cond (nat_le chunk.entry x && nat_lt x chunk.end) 1 0 ≤ 1 = grind (arith, nat_tests) in
    omega (arith, more, w, e, one, most, sum_by-cons (λ (y : ℕ). cond (nat_le chunk.entry y && nat_lt y chunk.end) 1 0) x xs)

module _ {code : Bytecode} {chunk : Span} {starts : List ℕ} {lists : Lists} {states : List (Option State)} {sent : List (Option Counts)} {work : List Coming} {deepest : ℕ}
    (w : Walking code chunk starts lists states sent work deepest) (split : Split code.bytes starts) (long : length states ≡ length starts) where
  state_inside : (k at : ℕ) (s : State) → slice_get starts k ≡ Some at → get_or states k None ≡ Some s → IsInChunk (coded code) chunk at
  state_inside k at s e f = let (op, v) = w.known.passed (at, view lists s) ((w.listed (at, view lists s)).1 (k, s, e, f, refl)) in v.passes.stands.within

  test_inside : (at : ℕ) → IsInChunk (coded code) chunk at → (nat_le chunk.entry at && nat_lt at chunk.end) ≡ true
  test_inside at h = let low = h.entry in let high = h.end in grind (arith, nat_tests, low, high)

  -- no more addresses were visited than the chunk has starts
  pub visits_within : visits_in states ≤ starts_within starts chunk
  visits_within = few _ starts states long (λ k at s e f. test_inside at (state_inside k at s e f))

  -- nor with one more that wasn't visited
  pub visits_more_within : (a : Arrival) → slice_get starts a.ordinal ≡ Some a.at → get_or states a.ordinal None ≡ None → IsInChunk (coded code) chunk a.at → visits_in states + 1 ≤ starts_within starts chunk
  visits_more_within a place fresh inside =
      let more = visited_more states a.ordinal a.state (let l = slice_get_within starts a.ordinal a.at place in omega arith) fresh in
      let set_long = length-set states a.ordinal (Some a.state) ∙ long in
      let most = few (λ at. nat_le chunk.entry at && nat_lt at chunk.end) starts (set states a.ordinal (Some a.state)) set_long (λ k at s e f. test_inside at (elim (set_cases states a.ordinal k a.state s f) [
        | inl h ↦ subst (IsInChunk (coded code) chunk) (same_Some a.at at (sym place ∙ ap (slice_get starts) (sym h.0) ∙ e)) inside
        | inr old ↦ state_inside k at s e old
      ])) in
      omega (arith, more, most)

  -- an address of the chunk that wasn't visited leaves room for one visit more
  pub visits_room : (a : Arrival) → slice_get starts a.ordinal ≡ Some a.at → get_or states a.ordinal None ≡ None → IsInChunk (coded code) chunk a.at → visits_in states < chunk.end
  visits_room a place fresh inside =
      let more = visits_more_within a place fresh inside in
      let few = starts_few code.bytes chunk 0 starts (split_splits code.bytes starts split) in
      omega (arith, more, few)
