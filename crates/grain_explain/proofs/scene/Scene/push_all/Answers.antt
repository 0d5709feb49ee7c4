use Rattle.std.proofs.Common.{◌≡◌, inl, inr, ℕ, List, get_or, refl, subst, sym, arith}
use Rattle.std.specs.List.{Contains}
use Rattle.std.proofs.lemmas.Bool.{cases_lt}
use Rattle.std.proofs.lemmas.List.{get_or_default}
use Rattle.std.proofs.lemmas.List.Elements.{All-push, Contains-append_left, Contains-get_or, Contains-push}
use Rattle.grain_explain.specs.Pursuits.{sent_to}
use Rattle.grain_explain.specs.Scenes.{ArrivesInWalk, seen, stacks_in}
use Rattle.grain_explain.specs.declared.arrival.Arrival.{Arrival}
use Rattle.grain_explain.specs.declared.row.Row.{Row}
use Rattle.grain_explain.proofs.Sceneries.{along_come, jump_edge}
use Rattle.grain_explain.proofs.scene.Scene.push_all.Goals as goal

pub loop-target-preserved : goal.loop-target-preserved
loop-target-preserved g c =
    let s = seen g.P.Read.facts g.P.Read.leads c.args.self.now in
    let d = c.args.departure.now in
    let left = c.requires.left in
    let at = c.loop-target.target-index in
    let inside = c.loop-target-test.true in
    let named = Contains-get_or c.args.targets.now at 0 inside in
    let target = get_or c.args.targets.now at 0 in
    let jump = left.leaves.jump in
    let row : Row = record { at = target; operands = d.leaving.jump.operands; iterators = d.leaving.jump.iterators; bases = d.leaving.jump.bases } in
    let edge = jump_edge s d left row target (stacks_in d.visited.bases.now d.leaving.jump) refl (subst (λ (ts : List ℕ). Contains ts target) c.requires.targets named) jump.is in
    let old = c.loop-target.work.items in
    let new = c.push.new.self.items in
    let P : Arrival → Type 0 = λ a. Contains new a in
    let last : Contains new (sent_to d target) = rw (c.in_ok-push.ensures.items, c.at.ensures) (Contains-push old (sent_to d target)) in
    let kept : (a : Arrival) → Contains old a → Contains new a = λ a h. rw c.in_ok-push.ensures.items (Contains-append_left old _ a h) in
    record {
      waits = rw (c.in_ok-push.ensures.items, c.at.ensures) (All-push (ArrivesInWalk s d.visited) old _ c.loop-target.invariant.waits (along_come s d left _ jump.listed refl (c.requires.inside at 0 inside) edge));
      keeps = λ a h. kept a (c.loop-target.invariant.keeps a h);
      sent = λ k z l. elim (cases_lt k at) [
        | inl m ↦ kept (sent_to d (get_or c.args.targets.now k z)) (c.loop-target.invariant.sent k z m)
        | inr m ↦
            let here : k ≡ at = omega arith in
            subst (λ (n : ℕ). Contains new (sent_to d (get_or c.args.targets.now n z))) (sym here)
            (subst (λ (t : ℕ). Contains new (sent_to d t)) (get_or_default c.args.targets.now at 0 z inside) last)
      ];
    }
