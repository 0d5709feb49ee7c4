use Rattle.std.proofs.Common.{◌≡◌, map, take}
use Rattle.grain_base.specs.Place.{place_of}
use Rattle.grain.proofs.sidecar.same_positions.Given as goal

abbrev pub invariant-loop-index : goal.invariant-loop-index
invariant-loop-index l = map place_of (take l.index l.some) ≡ map place_of (take l.index l.others)
