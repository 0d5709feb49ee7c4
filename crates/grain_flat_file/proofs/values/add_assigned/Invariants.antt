use Rattle.std.proofs.Common.{◌≡◌, ◌++◌, drop}
use Rattle.std.specs.List.{flat_map}
use Rattle.grain_flat_file.specs.Values.{assigned_rows, assigned_texts}
use Rattle.grain_flat_file.proofs.values.add_assigned.Given as goal

abbrev pub invariant-loop-op : goal.invariant-loop-op
invariant-loop-op l = record {
  rows : l.lists.rows.items ++ flat_map assigned_rows (drop l.op-index l.assigned) ≡ l.initial.lists.rows.items ++ flat_map assigned_rows l.assigned;
  texts : l.lists.texts.items ++ flat_map assigned_texts (drop l.op-index l.assigned) ≡ l.initial.lists.texts.items ++ flat_map assigned_texts l.assigned;
}
