use Rattle.std.proofs.Common.{subst}
use Rattle.grain_machine.specs.State.{IsRunnable}
use Rattle.grain_machine.proofs.prepared.Runnable.chunk.Goals as goal

pub returns-clause-runs : goal.returns-clause-runs
returns-clause-runs c = subst IsRunnable c.self.view_is c.self.invariant.0
