use Rattle.std.proofs.Common.{◌∙◌}
use Rattle.std.proofs.Math.Seq.{map-set_same}
use Rattle.grain_pools.specs.Chain.{step_positions, step_shape}
use Rattle.grain.proofs.SlotPositions.{drawn_next, later_next}
use Rattle.grain.proofs.slots.draw_steps.Goals as goal

pub loop-step-preserved : goal.loop-step-preserved
loop-step-preserved c =
    let h = c.loop-step.invariant in
    let i = c.loop-step.step-index in
    record {
      drawn = drawn_next step_positions c.args.steps.now c.loop-step.steps i c.draw_step.new.step c.step-item.result c.args.slots.now.left.now c.loop-step.slots.left.now
          c.draw_step.new.slots.left.now c.loop-step-test.true c.loop-step.auto.steps h.later h.drawn c.draw_step.ensures.drawn;
      later = later_next c.args.steps.now c.loop-step.steps i c.draw_step.new.step h.later;
      rest = λ p. map-set_same (step_shape p) c.loop-step.steps i c.draw_step.new.step c.step-item.result (c.draw_step.ensures.rest p) ∙ h.rest p;
    }
