use Rattle.std.proofs.Common.{◌≡◌, List, Option, length, map}
use Rattle.grain_base.specs.declared.pos.Site.{Site}
use Rattle.grain_bytecode.proofs.Streams.{Slots}
use Rattle.grain_flat.specs.Listing.{filled, place_row}
use Rattle.grain_flat.proofs.listing.list_sites.Given as goal

-- the first slots were read, and their sites written
abbrev pub invariant-slots : goal.invariant-slots
invariant-slots l = (sites : List (Option Site)) × Slots l.stream l.count l.turn l.at sites × (l.turn ≡ length sites) × (l.room ≡ filled (map place_row sites) l.initial.room)
