use Rattle.std.proofs.Common.{◌≡◌, ◌++◌, length}
use Rattle.std.specs.List.{flat_map, AllByRecursion}
use Rattle.grain_pools.specs.NamesLeft.{names_left}
use Rattle.grain_format.specs.Texts.{counted_bytes}
use Rattle.grain_format.specs.TextLaws.{TextFits}
use Rattle.grain_file.proofs.draft.Draft.names.Given as goal

abbrev pub invariant-loop-name : goal.invariant-loop-name
invariant-loop-name g l = record {
  marked : g.M.Marks.Reach l.self.marks (length l.self.bytes.items);
  spelled : l.self.bytes.items ++ flat_map counted_bytes (names_left l.name-iterator) ≡ l.initial.self.bytes.items ++ flat_map counted_bytes l.names;
  fits : AllByRecursion TextFits (names_left l.name-iterator) → AllByRecursion TextFits l.names;
}
