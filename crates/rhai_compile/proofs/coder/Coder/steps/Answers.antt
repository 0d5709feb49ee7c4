use Rattle.std.proofs.Common.{arith, rules}
use Rattle.rhai_emit.specs.Places.{step_places}
use Rattle.rhai_emit.proofs.PlaceTests.{each_pass}
use Rattle.rhai_compile.proofs.coder.Coder.steps.Goals as goal

pub loop-step-preserved : goal.loop-step-preserved
loop-step-preserved g c = record {
  written = search rules;
  placed = λ test these old.
      c.in_ok-step.ensures.placed test
      (each_pass step_places test c.args.steps.now c.loop-step.step-index c.step-item.result (omega arith) c.step-item.is these)
      (c.loop-step.invariant.placed test these old);
  more = search rules;
}
