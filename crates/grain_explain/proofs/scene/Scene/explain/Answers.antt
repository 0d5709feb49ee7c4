use Rattle.std.specs.Prelude.{MatchOption}
use Rattle.std.proofs.Common.{Option, ◌∙◌, List, Vec, Global, ap, subst, sym}
use Rattle.std.specs.List.{All, AllZip, Contains}
use Rattle.grain_explain.specs.Explaining.{IsOrigin, IsReachedRow, IsTypedBy}
use Rattle.grain_explain.specs.Pursuits.{IsRefusalShown}
use Rattle.grain_explain.specs.declared.arrival.Arrival.{Arrival}
use Rattle.grain_explain.specs.declared.row.LinkedBase.{LinkedBase}
use Rattle.grain_explain.specs.declared.row.Row.{Row}
use Rattle.grain_explain.proofs.Sceneries.{held_read}
use Rattle.grain_explain.specs.Scenes.{seen}
use Rattle.grain_explain.proofs.Walked.{explained_of}
use Rattle.grain_explain.proofs.scene.Scene.explain.Goals as goal
use Rattle.grain_explain.proofs.scene.Scene.explain.Goals.{in-Some, in-None+in_ok-refusal-in-None}

pub rows_of-requires : goal.rows_of-requires
rows_of-requires g c =
    held_read (seen g.P.Read.facts g.P.Read.leads c.args.self.now) _ _ _ _ (c.deref-2.ensures.value ∙ ap (λ (v : Vec LinkedBase Global). v.items) c.into_bases-bases.ensures) c.deref.ensures.value c.in_ok-found.ensures.come

pub certify-requires-clause-come : goal.certify-requires-clause-come
certify-requires-clause-come g c =
    held_read (seen g.P.Read.facts g.P.Read.leads c.args.self.now) _ _ _ _ (c.deref-2.ensures.value ∙ ap (λ (v : Vec LinkedBase Global). v.items) c.into_bases-bases.ensures) c.deref.ensures.value c.in_ok-found.ensures.come

pub certify-requires-clause-whole : goal.certify-requires-clause-whole
certify-requires-clause-whole g c = λ a h. subst (λ (rows : List Row). Contains rows a.row) (sym c.deref-in-None.ensures.value) (c.in_ok-rows.ensures.whole a h)

pub returns : goal.returns
returns g c =
    let s = seen g.P.Read.facts g.P.Read.leads c.args.self.now in
    let rows = c.in_ok-rows.field-0.rows in
    let bases = c.into_bases-bases.result in
    let slots = c.deref.result.now in
    let read = c.deref-2.ensures.value in
    let made = c.in_ok-rows.ensures in
    let taken = ap (λ (v : Vec LinkedBase Global). v.items) c.into_bases-bases.ensures in
    let found : MatchOption c.match-found-2.refusal (IsTypedBy s.code s.chunk bases.items rows.items) (IsRefusalShown s bases.items slots) = elim c.match-found-2.branch [
      | in-Some w ↦ rw w.refusal-is (subst (λ (bs : List LinkedBase). IsRefusalShown s bs slots w.in-Some.refusal) (sym taken)
          (subst (λ (xs : List (Option Arrival)). IsRefusalShown s c.run.new.search.arming.bases.items xs w.in-Some.refusal) (sym c.deref.ensures.value) (rw w.in-Some.is at c.in_ok-found.ensures.refusal)))
      | in-None+in_ok-refusal-in-None w ↦ rw w.refusal-is (subst (λ (bs : List LinkedBase). MatchOption w.in_ok-refusal-in-None.refusal (IsTypedBy s.code s.chunk bs rows.items) (IsRefusalShown s bs slots)) read
          (subst (λ (rs : List Row). MatchOption w.in_ok-refusal-in-None.refusal (IsTypedBy s.code s.chunk c.deref-2.result.now rs) (IsRefusalShown s c.deref-2.result.now slots)) w.deref-in-None.ensures.value
          w.in_ok-refusal-in-None.ensures))
    ] in
    explained_of s slots _ made.ascending (subst (λ (bs : List LinkedBase). All (IsReachedRow s.code s.chunk bs) rows.items) read made.reached)
    (subst (λ (bs : List LinkedBase). AllZip (IsOrigin s.code s.chunk bs) rows.items c.in_ok-rows.field-0.origins.items) read made.origins) made.whole found
