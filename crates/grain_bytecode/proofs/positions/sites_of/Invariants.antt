use Rattle.std.proofs.Common.{◌≡◌, map, take, Some}
use Rattle.grain_base.specs.Place.{place_of}
use Rattle.grain_bytecode.specs.Positions.{entries_at_places}
use Rattle.grain_bytecode.proofs.positions.sites_of.Given as goal

-- the entries for the positions so far
abbrev pub invariant-loop-at : goal.invariant-loop-at
invariant-loop-at l = l.sites.items ≡ entries_at_places (Some (map place_of (take l.at l.positions)))
