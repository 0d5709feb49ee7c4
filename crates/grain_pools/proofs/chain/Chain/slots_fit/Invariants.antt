use Rattle.std.proofs.Common.{◌≡◌, ◌+◌, ◌<◌, ◌^◌, length, take}
use Rattle.grain_pools.specs.Chain.{root_positions, steps_positions}
use Rattle.grain_pools.proofs.chain.Chain.slots_fit.Given as goal

-- the slots of the root and of the steps so far
abbrev pub invariant-loop-step : goal.invariant-loop-step
invariant-loop-step l = record {
  counted : l.slots ≡ length (root_positions l.self.root) + length (steps_positions (take l.step-index l.self.steps.items));
  fit : l.slots < 2 ^ 32;
}
