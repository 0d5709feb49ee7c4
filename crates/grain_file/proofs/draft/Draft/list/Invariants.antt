use Rattle.std.proofs.Common.{◌≡◌, ◌++◌, length, map, drop}
use Rattle.std.specs.List.{flat_map, AllByRecursion}
use Rattle.grain_format.specs.Refusals.{counted_refusal}
use Rattle.grain_file.proofs.draft.Draft.list.Given as goal

-- what is left to append completes it
abbrev pub invariant-loop-index : goal.invariant-loop-index
invariant-loop-index g l = record {
  marked : g.M.Marks.Reach l.self.marks (length l.self.bytes.items);
  spelled : l.self.bytes.items ++ flat_map g.T.FileField.format.spelling (map g.T.FileField.view (drop l.index l.items))
      ≡ l.initial.self.bytes.items ++ flat_map g.T.FileField.format.spelling (map g.T.FileField.view l.items);
  fits : AllByRecursion g.T.FileField.format.Fits (map g.T.FileField.view (drop l.index l.items))
      → AllByRecursion g.T.FileField.format.Fits (map g.T.FileField.view l.items);
  decided : counted_refusal g.T.FileField.format.refusal (map g.T.FileField.view l.items)
      ≡ counted_refusal g.T.FileField.format.refusal (map g.T.FileField.view (drop l.index l.items));
}
