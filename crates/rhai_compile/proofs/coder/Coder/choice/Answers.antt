use Rattle.std.proofs.Common.{arith, rules}
use Rattle.rhai_emit.specs.Places.{branch_places}
use Rattle.rhai_emit.proofs.PlaceTests.{each_pass}
use Rattle.rhai_compile.proofs.coder.Coder.choice.Goals as goal

pub loop-branch-preserved : goal.loop-branch-preserved
loop-branch-preserved g c = record {
  written = search rules;
  placed = λ test these old.
      c.in_ok-branch.ensures.placed test
      (each_pass branch_places test c.args.branches.now c.loop-branch.branch-index c.branch-item.result (omega arith) c.branch-item.is these)
      (c.loop-branch.invariant.placed test these old);
}
