use Rattle.std.proofs.Common.{◌≡◌, ◌<◌, ◌+◌, ◌++◌, ◌∷◌, [], inl, inr, ℕ, get_or, None, Some, refl, sym, subst, ◌∙◌, arith}
use Rattle.std.specs.List.{All, Contains}
use Rattle.std.proofs.lemmas.Bool.{cases_lt}
use Rattle.std.proofs.lemmas.List.Elements.{All-push, All-weaker, Contains-append_left, Contains-push}
use Rattle.std.proofs.lemmas.Option.{same_Some}
use Rattle.grain_explain.specs.Explaining.{IsOrigin}
use Rattle.grain_explain.specs.Pursuits.{IsRowIn}
use Rattle.grain_explain.specs.Scenes.{seen}
use Rattle.grain_explain.specs.declared.arrival.Arrival.{Arrival}
use Rattle.grain_explain.specs.declared.row.Row.{Row}
use Rattle.grain_explain.proofs.Sceneries.{held_within, zip_push}
use Rattle.grain_explain.proofs.Typings.{ascending_push}
use Rattle.grain_explain.proofs.Walked.{rows_reached}
use Rattle.grain_explain.proofs.scene.Scene.rows_of.Goals as goal
use Rattle.grain_explain.proofs.scene.Scene.rows_of.Goals.{in-Some+in_ok-push+in_ok-push-2, in_default}

pub loop-slot-preserved : goal.loop-slot-preserved
loop-slot-preserved g c =
    let s = seen g.P.Read.facts g.P.Read.leads c.args.self.now in
    let bases = c.args.visited.now.bases.now in
    let slots = c.args.visited.now.slots.now in
    let at = c.loop-slot.slot-index in
    let rows = c.loop-slot.rows.items in
    let entry = s.chunk.entry in
    let old = c.loop-slot.invariant in
    let low : All (λ (r : Row). r.at < entry + (at + 1)) rows = All-weaker (λ (r : Row). r.at < entry + at) (λ (r : Row). r.at < entry + (at + 1)) (λ r l. omega arith) rows old.below in
    elim c.match-slot.branch [
      | in-Some+in_ok-push+in_ok-push-2 w ↦
          let arrival = w.in-Some.arrival in
          let row = arrival.row in
          let held = c.requires at arrival w.in-Some.is in
          let placed = held.placed in
          rw (w.rows-is, w.in_ok-push.ensures.items, w.origins-is, w.in_ok-push-2.ensures.items) (record {
            origins = zip_push (IsOrigin s.code s.chunk bases) rows c.loop-slot.origins.items _ _ old.origins w.origin_of.ensures;
            ascending = ascending_push rows row old.ascending (All-weaker (λ (r : Row). r.at < entry + at) (λ (r : Row). r.at < row.at) (λ r l. omega arith) rows old.below);
            below = All-push (λ (r : Row). r.at < entry + (at + 1)) rows row low (omega arith);
            held = All-push (IsRowIn slots) rows row old.held (arrival, (at, w.in-Some.is), refl);
            whole = λ k a l e. elim (cases_lt k at) [
              | inl m ↦ Contains-append_left rows (row ∷ []) a.row (old.whole k a m e)
              | inr m ↦
                  let here : at ≡ k = omega arith in
                  let same : arrival ≡ a = same_Some arrival a (sym w.in-Some.is ∙ subst (λ (n : ℕ). get_or slots n None ≡ Some a) (sym here) e) in
                  subst (λ (x : Arrival). Contains (rows ++ row ∷ []) x.row) same (Contains-push rows row)
            ];
          })
      | in_default w ↦ rw (w.rows-is, w.origins-is) (record {
        origins = old.origins;
        ascending = old.ascending;
        below = low;
        held = old.held;
        whole = λ k a l e. elim (cases_lt k at) [
          | inl m ↦ old.whole k a m e
          | inr m ↦
              let here : at ≡ k = omega arith in
              absurd (w.in_default.not-Some a (subst (λ (n : ℕ). get_or slots n None ≡ Some a) (sym here) e))
        ];
      })
    ]

pub origin_of-requires-clause-arrival : goal.origin_of-requires-clause-arrival
origin_of-requires-clause-arrival g c = (c.loop-slot.slot-index, c.in-Some.is)

pub returns-clause-reached : goal.returns-clause-reached
returns-clause-reached g c =
    rows_reached (seen g.P.Read.facts g.P.Read.leads c.args.self.now) c.args.visited.now.bases.now c.args.visited.now.slots.now c.loop-slot.rows.items c.requires c.loop-slot.invariant.held

pub returns-clause-whole : goal.returns-clause-whole
returns-clause-whole g c = λ a (k, e). (let l = held_within c.args.visited.now.slots.now k a e in let m = c.loop-slot-test.false in c.loop-slot.invariant.whole k a (omega arith) e)
