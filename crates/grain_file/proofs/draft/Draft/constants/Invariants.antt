use Rattle.std.proofs.Common.{◌≡◌, ◌++◌, length, drop}
use Rattle.std.specs.List.{flat_map, AllByRecursion}
use Rattle.grain_format.specs.Form.{IsSound, forms, spelled, value_refusal}
use Rattle.grain_format.specs.Refusals.{counted_refusal}
use Rattle.grain_file.proofs.draft.Draft.constants.Given as goal

abbrev pub invariant-loop-index : goal.invariant-loop-index
invariant-loop-index g l = record {
  marked : g.M.Marks.Reach l.self.marks (length l.self.bytes.items);
  spelled : l.self.bytes.items ++ flat_map spelled (forms (drop l.index l.constants)) ≡ l.initial.self.bytes.items ++ flat_map spelled (forms l.constants);
  sound : AllByRecursion IsSound (forms (drop l.index l.constants)) → AllByRecursion IsSound (forms l.constants);
  decided : counted_refusal value_refusal (forms l.constants) ≡ counted_refusal value_refusal (forms (drop l.index l.constants));
}
