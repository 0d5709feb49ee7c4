use Rattle.std.proofs.Common.{◌≡◌, map, take, drop}
use Rattle.grain_base.specs.declared.position.Position.{Position}
use Rattle.grain_pools.specs.Chain.{step_shape, steps_positions}
use Rattle.grain.specs.Slots.{IsDrawn}
use Rattle.grain.proofs.slots.draw_steps.Given as goal

abbrev pub invariant-loop-step : goal.invariant-loop-step
invariant-loop-step l = record {
  drawn : IsDrawn (steps_positions (take l.step-index l.initial.steps)) (steps_positions (take l.step-index l.steps)) l.initial.slots.left.now l.slots.left.now;
  later : drop l.step-index l.steps ≡ drop l.step-index l.initial.steps;
  rest : (p : Position) → map (step_shape p) l.steps ≡ map (step_shape p) l.initial.steps;
}
