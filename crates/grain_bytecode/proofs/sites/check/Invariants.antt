use Rattle.std.proofs.Common.{List, Option}
use Rattle.grain_base.specs.declared.pos.Site.{Site}
use Rattle.grain_bytecode.proofs.Streams.{Slots}
use Rattle.grain_bytecode.proofs.sites.check.Given as goal

-- this many slots were read
abbrev pub invariant-slots : goal.invariant-slots
invariant-slots l = (sites : List (Option Site)) × Slots l.stream l.count l._turn l.at sites
