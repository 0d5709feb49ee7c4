use Rattle.std.proofs.Common.{◌≡◌, ◌++◌, drop, length}
use Rattle.std.specs.List.{flat_map}
use Rattle.grain_format.specs.Form.{forms}
use Rattle.grain_flat_file.specs.Values.{value_begins, value_rows, value_texts}
use Rattle.grain_flat_file.proofs.values.list_constants.Given as goal

abbrev pub invariant-loop-constant : goal.invariant-loop-constant
invariant-loop-constant l = record {
  begins : l.begins.items ++ value_begins (length l.values.rows.items) (forms (drop l.constant-index l.constants)) ≡ value_begins 0 (forms l.constants);
  rows : l.values.rows.items ++ flat_map value_rows (forms (drop l.constant-index l.constants)) ≡ flat_map value_rows (forms l.constants);
  texts : l.values.texts.items ++ flat_map value_texts (forms (drop l.constant-index l.constants)) ≡ flat_map value_texts (forms l.constants);
}
