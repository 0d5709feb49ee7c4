-- An arrival is taken off the worklist.
use Rattle.std.proofs.Common.{◌≡◌, inl, inr, ℕ, ◌+◌, ◌<◌, ◌≤◌, List, [], ◌∷◌, ◌++◌, length, get_or, slice_get, map, Some, None, refl, subst, arith}
use Rattle.std.specs.List.{All}
use Rattle.std.proofs.lemmas.List.{map_push}
use Rattle.std.proofs.lemmas.List.Elements.{All-pop, Contains-push}
use Rattle.std.proofs.lemmas.Option.{slice_get_within}
use Rattle.grain_code.specs.Span.{Span}
use Rattle.grain_rules.specs.Accepted.{IsFramed}
use Rattle.grain_rules.specs.Code.{coded}
use Rattle.grain_rules.specs.Flaw.{ChunkFlaw, FallsOff}
use Rattle.grain_rules.specs.Typing.{IsInChunk, Reached}
use Rattle.grain_rules.specs.declared.error.VerifyError.TheVariants.{DepthConflict}
use Rattle.grain_verify.specs.Arrivals.{Coming, IsAtOrdinal, coming, sent_by, view}
use Rattle.grain_verify.specs.Meter.{starts_within}
use Rattle.grain_verify.specs.Progress.{IsWalking, NamesList, Walking, Walks, visits_in}
use Rattle.grain_verify.specs.Walk.{IsReady, Walked}
use Rattle.grain_verify.specs.declared.lists.Lists.{Lists}
use Rattle.grain_verify.specs.declared.state.Arrival.{Arrival}
use Rattle.grain_verify.specs.declared.state.State.{State}
use Rattle.grain_verify.specs.declared.walk.Traversal.{Traversal}
use Rattle.grain_verify.proofs.EdgeTargets.{Lands, walks_lands, walks_reached, walks_small}
use Rattle.grain_verify.proofs.ListNumbers.{named_there}
use Rattle.grain_verify.proofs.SentCounts.{unlike_views}
use Rattle.grain_verify.proofs.VisitCounts.{visits_more_within, visits_room, visits_within}
use Rattle.grain_verify.proofs.WalkIsSearch.{pending_reached, walking_skip}

module _ {p : Walked} {chunk : Span} {lists : Lists} {t : Traversal} {deepest : ℕ} (rest : List Arrival) (a : Arrival) (w : IsWalking p chunk lists t (rest ++ a ∷ []) deepest) where
  pub taken_walking : Walking p.code chunk p.starts lists t.states (sent_by lists t.sent) (map (coming lists) rest ++ coming lists a ∷ []) deepest
  taken_walking = subst (λ (xs : List Coming). Walking p.code chunk p.starts lists t.states (sent_by lists t.sent) xs deepest) (map_push (coming lists) rest a) w.walking

  walks : (n : ℕ) × (n ≤ length taken_walking.marked) × Walks p.code chunk n (coming lists a)
  walks = taken_walking.search.reached (coming lists a) (inr (Contains-push (map (coming lists) rest) (coming lists a)))

  lands : Lands p.code chunk a.at
  lands = let (n, few, path) = walks in walks_lands p.code chunk taken_walking.known.framed taken_walking.known.holds n (coming lists a) path

  -- what holds of all arrivals holds of it, and of those that are left
  both : (P : Arrival → Type 0) → All P (rest ++ a ∷ []) → All P rest × P a
  both P all = All-pop P (rest ++ a ∷ []) rest (Some a) refl all

  pub taken_named : NamesList lists a.state
  taken_named = (both (λ (b : Arrival). NamesList lists b.state) w.known.waiting).1

  pub taken_place : a.at < chunk.end → slice_get p.starts a.ordinal ≡ Some a.at
  taken_place = (both (IsAtOrdinal p.starts chunk) w.at_ordinal).1

  pub left_named : All (λ (b : Arrival). NamesList lists b.state) rest
  left_named = (both (λ (b : Arrival). NamesList lists b.state) w.known.waiting).0

  pub left_placed : All (IsAtOrdinal p.starts chunk) rest
  left_placed = (both (IsAtOrdinal p.starts chunk) w.at_ordinal).0

  pub taken_known : a.at < chunk.end → a.ordinal < length t.states
  taken_known l = let k = slice_get_within p.starts a.ordinal a.at (taken_place l) in let e = w.fits.states in omega arith

  pub taken_reached : Reached (coded p.code) chunk a.at (view lists a.state)
  taken_reached = let (n, few, path) = walks in walks_reached p.code chunk n (coming lists a) path

  pub taken_falls : chunk.end ≤ a.at → FallsOff p.code chunk
  taken_falls g = elim lands [ inl h ↦ absurd (let q = h.end in omega arith) | inr e ↦ e.1 ]

  module _ (inside : a.at < chunk.end) where
    pub taken_inside : IsInChunk (coded p.code) chunk a.at
    taken_inside = elim lands [ inl h ↦ h | inr e ↦ absurd (let q = e.0 in omega arith) ]

    -- it was visited with the same state
    pub taken_skipped : get_or t.states a.ordinal None ≡ Some a.state → IsWalking p chunk lists t rest deepest
    taken_skipped was = record {
      fits = w.fits;
      at_ordinal = left_placed;
      known = record { shared = w.known.shared; states = w.known.states; sent = w.known.sent; waiting = left_named; few = w.known.few };
      walking = walking_skip _ a taken_walking (taken_place inside) was;
    }

    -- it was visited with another: two paths lead here with unlike counts
    pub taken_conflicts : (before : State) → IsFramed p.code chunk
        → get_or t.states a.ordinal None ≡ Some before → (before ≡ a.state → ⊥) → ChunkFlaw p.code chunk (DepthConflict a.at before.operands a.state.operands)
    taken_conflicts before framed was unlike = (
      framed,
      taken_inside,
      record {
        one = view lists before;
        other = view lists a.state;
        one_reached = pending_reached taken_walking (a.at, view lists before) (inl ((taken_walking.listed (a.at, view lists before)).1 (a.ordinal, before, taken_place inside, was, refl)));
        other_reached = taken_reached;
        unlike = unlike_views lists before a.state w.known.shared (named_there lists t.states a.ordinal before w.known.states was) taken_named unlike;
        expected_is = refl;
        found_is = refl;
      },
    )

    -- it wasn't visited, and leaves room for one visit more
    module _ (ready : IsReady p) (fresh : get_or t.states a.ordinal None ≡ None) where
      pub taken_more_within : visits_in t.states + 1 ≤ starts_within p.starts chunk
      taken_more_within = visits_more_within taken_walking ready.starts w.fits.states a (taken_place inside) fresh taken_inside

      pub taken_room : visits_in t.states < chunk.end
      taken_room = visits_room taken_walking ready.starts w.fits.states a (taken_place inside) fresh taken_inside

      pub taken_small : (a.state.operands < chunk.end) × (a.state.iterators < chunk.end)
      taken_small =
          let (n, few, path) = walks in
          let k = walks_small p.code chunk n (coming lists a) path in
          let e = taken_walking.count in
          let room = taken_room in
          (omega (arith, few, k.operands), omega (arith, few, k.iterators))

  -- no more were visited than the chunk has starts
  pub taken_within : IsReady p → visits_in t.states ≤ starts_within p.starts chunk
  taken_within ready = visits_within taken_walking ready.starts w.fits.states
