use Rattle.grain_bytecode.proofs.Streams.{Slots}
use Rattle.grain_bytecode.proofs.sites.decode.Given as goal

-- this many slots were read
abbrev pub invariant-slots : goal.invariant-slots
invariant-slots l = Slots l.stream l.count l._turn l.at l.sites.items
