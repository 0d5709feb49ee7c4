use Rattle.grain_machine.specs.Resting.{IsParked}
use Rattle.grain_tool.proofs.memory.run_within.Given as goal

abbrev pub invariant-slices : goal.invariant-slices
invariant-slices g l = IsParked l.main.program l.run
