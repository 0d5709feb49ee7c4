use Rattle.std.proofs.Common.{◌≡◌, ◌+◌, length, min, take}
use Rattle.grain_pools.specs.Chain.{root_positions, steps_positions}
use Rattle.grain.proofs.slots.count_more.Given as goal

abbrev pub invariant-loop-step : goal.invariant-loop-step
invariant-loop-step l = l.count ≡ min (l.before + length (root_positions l.chain.root) + length (steps_positions (take l.step-index l.step-items))) 18446744073709551615
