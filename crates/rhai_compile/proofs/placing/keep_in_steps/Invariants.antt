use Rattle.std.proofs.Common.{◌≡◌, map}
use Rattle.std.specs.List.{All, AllWithin}
use Rattle.grain_base.specs.declared.position.Position.{Position}
use Rattle.grain_pools.specs.Chain.{step_positions, step_shape}
use Rattle.rhai_compile.specs.Positions.{IsListedPosition}
use Rattle.rhai_compile.proofs.placing.keep_in_steps.Given as goal

abbrev pub invariant-loop-step : goal.invariant-loop-step
invariant-loop-step l = record {
  kept : AllWithin (λ s. All (IsListedPosition l.lines.lengths.items) (step_positions s)) l.steps 0 l.step-index;
  rest : (p : Position) → map (step_shape p) l.steps ≡ map (step_shape p) l.initial.steps;
}
