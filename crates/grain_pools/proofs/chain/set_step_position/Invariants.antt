use Rattle.std.proofs.Common.{◌≡◌, ◌+◌, length, take}
use Rattle.grain_pools.specs.Chain.{steps_positions}
use Rattle.grain_pools.proofs.chain.set_step_position.Given as goal

-- the steps so far have been left as they were, and the slot is past theirs
abbrev pub invariant-loop-step : goal.invariant-loop-step
invariant-loop-step l = record {
  unchanged : l.steps ≡ l.initial.steps;
  passed : l.slot ≡ length (steps_positions (take l.step-index l.initial.steps)) + l.left;
}
