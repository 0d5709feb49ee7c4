use Rattle.std.proofs.Common.{◌∙◌, refl, sym, subst, arith}
use Rattle.std.proofs.lemmas.Option.{none-some, same_Some}
use Rattle.grain_explain.specs.Scenes.{seen}
use Rattle.grain_explain.specs.Ways.{Follows, arrival_stop}
use Rattle.grain_explain.specs.declared.arrival.Arrival.{Arrival}
use Rattle.grain_explain.proofs.scene.Scene.origin_of.Goals as goal

pub at-requires : goal.at-requires
at-requires g c =
    let (k, e) = c.requires.arrival in
    let (y, held, follows) = rw c.in-Some.is at (c.requires.come k c.args.arrival.now e).come.origin in
    (y, held)

pub returns-in-Some : goal.returns-in-Some
returns-in-Some g c =
    let s = seen g.P.Read.facts g.P.Read.leads c.args.self.now in
    let bases = c.args.visited.now.bases.now in
    let before = c.at.result.now in
    let (k, e) = c.requires.arrival in
    let here = c.requires.come k c.args.arrival.now e in
    let placed = here.placed in
    let (y, held, follows) = rw c.in-Some.is at here.come.origin in
    let come = (c.requires.come c.in-Some.place before c.at.ensures).come in
    record {
      from = (_, come.reached, subst (λ (a : Arrival). Follows s.code s.chunk (arrival_stop bases a) (arrival_stop bases c.args.arrival.now)) (same_Some y before (sym held ∙ c.at.ensures)) follows);
      none = (λ n. absurd (none-some _ (sym n)), λ at. absurd (none-some c.in-Some.place (sym (here.first.1 (omega arith)) ∙ c.in-Some.is)));
    }

pub returns-in-None : goal.returns-in-None
returns-in-None g c =
    let (k, e) = c.requires.arrival in
    let here = c.requires.come k c.args.arrival.now e in
    let placed = here.placed in
    let zero = here.first.0 c.in-None.is in
    record { from = rw c.in-None.is at here.come.origin; none = (λ _. omega arith, λ _. refl) }
