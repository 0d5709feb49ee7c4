use Rattle.std.proofs.Common.{length, subst}
use Rattle.grain.specs.Program.{Program}
use Rattle.grain_machine.specs.Decoded.{AreDecoded}
use Rattle.grain_machine.proofs.prepared.prepare.Goals as goal

pub invariant_of-result : goal.invariant_of-result
invariant_of-result c = subst (λ (p : Program). AreDecoded p (length p.code) c.in_ok-decoded.decoded.items) c.program.ensures.program c.in_ok-decoded.ensures
