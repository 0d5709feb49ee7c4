use Rattle.std.proofs.Common.{◌≡◌, ◌++◌, length, map, drop}
use Rattle.std.specs.List.{flat_map, AllByRecursion}
use Rattle.grain_format.specs.Form.{forms}
use Rattle.grain_format.specs.Refusals.{counted_refusal}
use Rattle.grain_format.specs.Switches.{FitsAlone, switch_parts, switch_refusal, switch_spelling}
use Rattle.grain_file.proofs.draft.Draft.switches.Given as goal

abbrev pub invariant-loop-index : goal.invariant-loop-index
invariant-loop-index g l = record {
  marked : g.M.Marks.Reach l.self.marks (length l.self.bytes.items);
  spelled : l.self.bytes.items ++ flat_map switch_spelling (map (switch_parts l.constants) (drop l.index l.switches))
      ≡ l.initial.self.bytes.items ++ flat_map switch_spelling (map (switch_parts l.constants) l.switches);
  fits : AllByRecursion (FitsAlone (forms l.constants)) (map (switch_parts l.constants) (drop l.index l.switches))
      → AllByRecursion (FitsAlone (forms l.constants)) (map (switch_parts l.constants) l.switches);
  decided : counted_refusal switch_refusal (map (switch_parts l.constants) l.switches)
      ≡ counted_refusal switch_refusal (map (switch_parts l.constants) (drop l.index l.switches));
}
