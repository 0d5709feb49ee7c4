use Rattle.std.proofs.Common.{◌<◌, ◌^◌, map, take, All, Some}
use Rattle.grain_base.specs.Place.{place_of}
use Rattle.grain_bytecode.specs.Positions.{entries_at_places}
use Rattle.grain_bytecode.proofs.positions.addresses_fit.Given as goal

-- the addresses of the entries for the positions so far fit
abbrev pub invariant-loop-at : goal.invariant-loop-at
invariant-loop-at l = All (λ entry. entry.0 < 2 ^ 32) (entries_at_places (Some (map place_of (take l.at l.positions))))
