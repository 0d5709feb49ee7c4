use Rattle.std.proofs.Common.{◌≡◌, ◌+◌, take}
use Rattle.grain_flat.specs.PoolsFlaws.{all_steps}
use Rattle.grain_flat.proofs.flat.steps_flaw.Given as goal

abbrev pub invariant-loop-index : goal.invariant-loop-index
invariant-loop-index l = all_steps (take l.index l.rows) + l.left ≡ l.steps
