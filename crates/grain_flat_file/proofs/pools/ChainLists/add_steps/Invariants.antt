use Rattle.std.proofs.Common.{◌≡◌, ◌++◌, drop, map}
use Rattle.grain_flat.specs.Flat.{step_row}
use Rattle.grain_flat_file.specs.Contents.{flags_of}
use Rattle.grain_flat_file.proofs.pools.ChainLists.add_steps.Given as goal

abbrev pub invariant-loop-step : goal.invariant-loop-step
invariant-loop-step l = record {
  steps : l.self.steps.items ++ map step_row (drop l.step-index l.steps) ≡ l.initial.self.steps.items ++ map step_row l.steps;
  flags : l.self.flags.items ++ map flags_of (drop l.step-index l.steps) ≡ l.initial.self.flags.items ++ map flags_of l.steps;
  rows : l.self.rows ≡ l.initial.self.rows;
}
