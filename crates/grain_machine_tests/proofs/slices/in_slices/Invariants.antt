use Rattle.grain_machine.specs.Resting.{IsParked}
use Rattle.grain_machine_tests.proofs.slices.in_slices.Given as goal

abbrev pub invariant-slices : goal.invariant-slices
invariant-slices l = IsParked l.main.program l.run
