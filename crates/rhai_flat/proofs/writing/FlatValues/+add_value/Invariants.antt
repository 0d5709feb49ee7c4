use Rattle.std.proofs.Common.{drop}
use Rattle.grain_flat_file.specs.Values.{entry_rows, entry_texts, value_rows, value_texts}
use Rattle.rhai_flat.specs.Forms.{flat_entries, flat_forms}
use Rattle.rhai_flat.proofs.Appending.{LeavesFor}
use Rattle.rhai_flat.proofs.writing.FlatValues.+add_value.Given as goal

abbrev pub invariant-add_all-loop-value : goal.invariant-add_all-loop-value
invariant-add_all-loop-value l = LeavesFor value_rows value_texts l.initial.self l.self (flat_forms l.values) (flat_forms (drop l.value-index l.values))

abbrev pub invariant-add_entries-loop-key : goal.invariant-add_entries-loop-key
invariant-add_entries-loop-key l = LeavesFor entry_rows entry_texts l.initial.self l.self (flat_entries l.entries.entries) (flat_entries l.key-iterator)
