use Rattle.std.proofs.Common.{◌∷◌, ◌++◌, suc, List, length, ap, refl, subst, sym, ◌∙◌, arith}
use Rattle.std.proofs.lemmas.List.{length_push}
use Rattle.std.proofs.lemmas.List.Elements.{All-nil, All-push}
use Rattle.std.proofs.lemmas.Option.{same_Some}
use Rattle.grain_explain.specs.Pursuits.{IsRowIn}
use Rattle.grain_explain.specs.Scenes.{seen, visit_count}
use Rattle.grain_explain.specs.Ways.{Follows, IsWayTo, arrival_stop, stops_of}
use Rattle.grain_explain.specs.declared.arrival.Arrival.{Arrival}
use Rattle.grain_explain.specs.declared.row.Row.{Row}
use Rattle.grain_explain.proofs.Sceneries.{way_more}
use Rattle.grain_explain.proofs.StepsBack.{back_from}
use Rattle.grain_explain.proofs.scene.Scene.way_to.Goals as goal

pub at-here-requires : goal.at-here-requires
at-here-requires g c = let (y, held, follows) = rw c.in-Some.is at c.back.invariant.come.origin in (y, held)

pub back-preserved : goal.back-preserved
back-preserved g c =
    let code = (seen g.P.Read.facts g.P.Read.leads c.args.self.now).code in
    let chunk = c.args.self.now.chunk.now in
    let bases = c.args.visited.now.bases.now in
    let slots = c.args.visited.now.slots.now in
    let here = c.back.here.now in
    let before = c.at-here.result.now in
    let found = c.at-here.ensures in
    let (y, held, follows) = rw c.in-Some.is at c.back.invariant.come.origin in
    let edge = subst (λ (a : Arrival). Follows code chunk (arrival_stop bases a) (arrival_stop bases here)) (same_Some y before (sym held ∙ found)) follows in
    let (n, total, back) = c.back.invariant.back in
    let (m, less, earlier) = back_from slots n here before c.in-Some.place c.in-Some.is found back in
    let grown = ap (λ (rows : List Row). length rows) c.in_ok-push.ensures.items ∙ length_push c.back.way.items here.row in
    record {
      come = (c.requires.come c.in-Some.place before found).come;
      back = (m, omega (arith, grown, total, less), earlier);
      visited = λ h. (
          let (there, all) = c.back.invariant.visited h in
          ((c.in-Some.place, found), rw c.in_ok-push.ensures.items (All-push (IsRowIn slots) c.back.way.items here.row all (here, there, refl)))
          );
      so_far = λ earlier way. (
          let items = ap (λ (rows : List Row). stops_of bases rows ++ arrival_stop bases before ∷ earlier) c.in_ok-push.ensures.items in
          let more = way_more bases c.back.way.items here.row (arrival_stop bases here) (arrival_stop bases before) earlier refl in
          subst (IsWayTo code chunk (arrival_stop bases c.args.last.now)) (sym (items ∙ more)) (c.back.invariant.so_far (arrival_stop bases before ∷ earlier) (edge, way))
          );
    }

pub back-init : goal.back-init
back-init g c =
    let slots = c.args.visited.now.slots.now in
    record {
      come = c.requires.last;
      back = (suc (visit_count slots), rw c.new-way.ensures.items (omega arith), c.requires.last.bounded.back);
      visited = λ h. (h, rw c.new-way.ensures.items (All-nil (IsRowIn slots)));
      so_far = λ earlier way. rw c.new-way.ensures.items (record { earlier = earlier; is = refl; along = way });
    }

pub returns-in_default-clause-visited : goal.returns-in_default-clause-visited
returns-in_default-clause-visited g c h =
    let (there, all) = c.back.invariant.visited h in
    rw c.in_ok-push.ensures.items (All-push (IsRowIn c.args.visited.now.slots.now) c.back.way.items c.back.here.now.row all (c.back.here.now, there, refl))
