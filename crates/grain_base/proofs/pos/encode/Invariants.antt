use Rattle.grain_base.proofs.TableEncoding.{Encoded}
use Rattle.grain_base.proofs.pos.encode.Given as goal

abbrev pub invariant-loop-address : goal.invariant-loop-address
invariant-loop-address l = Encoded l.sites l.address-index l.last l.table.items
