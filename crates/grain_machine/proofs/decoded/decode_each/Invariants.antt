use Rattle.grain_machine.specs.Decoded.{AreDecoded}
use Rattle.grain_machine.proofs.decoded.decode_each.Given as goal

abbrev pub invariant-loop-at : goal.invariant-loop-at
invariant-loop-at l = AreDecoded l.program l.at l.all.items
