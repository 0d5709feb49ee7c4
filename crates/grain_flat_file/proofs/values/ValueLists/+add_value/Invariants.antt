use Rattle.std.proofs.Common.{◌≡◌, ◌++◌, drop}
use Rattle.std.specs.List.{flat_map}
use Rattle.grain_format.specs.Form.{entry_forms, forms}
use Rattle.grain_flat_file.specs.Values.{entry_rows, entry_texts, value_rows, value_texts}
use Rattle.grain_flat_file.proofs.values.ValueLists.+add_value.Given as goal

abbrev pub invariant-add_all-loop-value : goal.invariant-add_all-loop-value
invariant-add_all-loop-value l = record {
  rows : l.self.rows.items ++ flat_map value_rows (forms (drop l.value-index l.values)) ≡ l.initial.self.rows.items ++ flat_map value_rows (forms l.values);
  texts : l.self.texts.items ++ flat_map value_texts (forms (drop l.value-index l.values)) ≡ l.initial.self.texts.items ++ flat_map value_texts (forms l.values);
}

abbrev pub invariant-add_entries-loop-key : goal.invariant-add_entries-loop-key
invariant-add_entries-loop-key l = record {
  rows : l.self.rows.items ++ flat_map entry_rows (entry_forms l.key-iterator) ≡ l.initial.self.rows.items ++ flat_map entry_rows (entry_forms l.entries.entries);
  texts : l.self.texts.items ++ flat_map entry_texts (entry_forms l.key-iterator) ≡ l.initial.self.texts.items ++ flat_map entry_texts (entry_forms l.entries.entries);
}
