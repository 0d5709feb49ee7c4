use Rattle.std.proofs.Common.{◌≡◌, length}
use Rattle.std.specs.List.{All}
use Rattle.rhai_compile.specs.Positions.{IsKeptPosition}
use Rattle.rhai_compile.proofs.LocatedPositions.{AreFoundUpTo}
use Rattle.rhai_compile.proofs.building.dense.Given as goal

abbrev pub invariant-loop-index : goal.invariant-loop-index
invariant-loop-index l = record {
  kept : All (IsKeptPosition l.lines.lengths.items l.places) l.positions.items;
  many : length l.positions.items ≡ l.len;
  placed : AreFoundUpTo l.lines.lengths.items l.places l.offsets l.index l.positions.items;
}
