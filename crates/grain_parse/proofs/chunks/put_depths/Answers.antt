use Rattle.std.proofs.Common.{ℕ, List, get_or, take, sym, subst, arith}
use Rattle.std.proofs.Math.ListN.{set}
use Rattle.std.proofs.lemmas.Grind.{take_at_read}
use Rattle.grain_parse.specs.Depths.{DeclareDepths}
use Rattle.grain_parse.proofs.DeclaredDepths.{none_there, one_declared}
use Rattle.grain_parse.proofs.chunks.put_depths.Goals as goal

pub chosen-preserved-then-at-stacks : goal.chosen-preserved-then-at-stacks
chosen-preserved-then-at-stacks c =
    let next = (take_at_read c.args.automatic.now c.chosen.index-index 0 (omega (arith, c.chosen-test.true))).1 in
    subst (λ (xs : List ℕ). DeclareDepths xs c.args.depths.now c.args.stacks.now c.chosen.stacks) (sym next)
    (none_there _ c.args.depths.now c.args.stacks.now c.chosen.stacks _ c.chosen.invariant (omega (arith, c.if-at-stacks.true)))

pub chosen-preserved : goal.chosen-preserved
chosen-preserved c =
    let at = get_or c.args.automatic.now c.chosen.index-index 0 in
    let next = (take_at_read c.args.automatic.now c.chosen.index-index 0 (omega (arith, c.chosen-test.true))).1 in
    subst (λ (xs : List ℕ). DeclareDepths xs c.args.depths.now c.args.stacks.now (set c.chosen.stacks at (get_or c.args.depths.now at 0))) (sym next)
    (one_declared (take c.chosen.index-index c.args.automatic.now) c.args.depths.now c.args.stacks.now c.chosen.stacks at c.chosen.invariant (omega (arith, c.if-at-stacks.false)))
