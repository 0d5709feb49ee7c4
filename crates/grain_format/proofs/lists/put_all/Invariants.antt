use Rattle.std.proofs.Common.{◌≡◌, ◌++◌, map, drop}
use Rattle.std.specs.List.{flat_map, AllByRecursion}
use Rattle.grain_format.specs.Refusals.{counted_refusal}
use Rattle.grain_format.proofs.lists.put_all.Given as goal

abbrev pub invariant-loop-item : goal.invariant-loop-item
invariant-loop-item g l = record {
  spelled : l.out.items ++ flat_map g.T.FileField.format.spelling (map g.T.FileField.view (drop l.item-index l.items))
      ≡ l.initial.out.items ++ flat_map g.T.FileField.format.spelling (map g.T.FileField.view l.items);
  fits : AllByRecursion g.T.FileField.format.Fits (map g.T.FileField.view (drop l.item-index l.items))
      → AllByRecursion g.T.FileField.format.Fits (map g.T.FileField.view l.items);
  decided : counted_refusal g.T.FileField.format.refusal (map g.T.FileField.view l.items)
      ≡ counted_refusal g.T.FileField.format.refusal (map g.T.FileField.view (drop l.item-index l.items));
}
