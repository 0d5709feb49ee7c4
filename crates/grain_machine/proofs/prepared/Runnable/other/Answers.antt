use Rattle.std.proofs.Common.{sym, ap, subst}
use Rattle.grain.specs.Program.{Program}
use Rattle.grain_machine.specs.State.{IsRunnable, Runs}
use Rattle.grain_machine.proofs.prepared.Runnable.other.Goals as goal

pub invariant_of-result : goal.invariant_of-result
invariant_of-result c = (
  subst (λ (p : Program). IsRunnable (record { program = p; chunk = c.args.chunk; room = c.args.room })) (sym (ap (λ (r : Runs). r.program) c.self.view_is)) c.requires,
  c.self.invariant.1,
  c.self.invariant.2,
)
