use Rattle.std.proofs.Common.{◌≡◌, ◌++◌, drop}
use Rattle.std.specs.List.{flat_map, AllByRecursion}
use Rattle.grain_format.specs.Refusals.{counted_refusal}
use Rattle.grain_format.specs.Form.{EntryFits, IsSound, entry_forms, entry_spelled, forms, spelled, value_refusal}
use Rattle.grain_format.specs.FormSound.{entry_refusal}
use Rattle.grain_format.proofs.values.+put_value.Given as goal

-- what is left to append completes it
abbrev pub invariant-put_entries-loop-key : goal.invariant-put_entries-loop-key
invariant-put_entries-loop-key l = record {
  spelled : l.out.items ++ flat_map entry_spelled (entry_forms l.key-iterator) ≡ l.initial.out.items ++ flat_map entry_spelled (entry_forms l.entries.entries);
  sound : AllByRecursion (EntryFits IsSound) (entry_forms l.key-iterator) → AllByRecursion (EntryFits IsSound) (entry_forms l.entries.entries);
  decided : counted_refusal entry_refusal (entry_forms l.entries.entries) ≡ counted_refusal entry_refusal (entry_forms l.key-iterator);
}

abbrev pub invariant-put_values-loop-value : goal.invariant-put_values-loop-value
invariant-put_values-loop-value l = record {
  spelled : l.out.items ++ flat_map spelled (forms (drop l.value-index l.values)) ≡ l.initial.out.items ++ flat_map spelled (forms l.values);
  sound : AllByRecursion IsSound (forms (drop l.value-index l.values)) → AllByRecursion IsSound (forms l.values);
  decided : counted_refusal value_refusal (forms l.values) ≡ counted_refusal value_refusal (forms (drop l.value-index l.values));
}
