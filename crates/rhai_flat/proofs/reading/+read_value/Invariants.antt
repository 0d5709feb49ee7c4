use Rattle.std.proofs.Common.{◌≡◌, ◌+◌, ◌*◌, length}
use Rattle.rhai_flat.specs.Forms.{flat_entries, flat_forms}
use Rattle.rhai_flat.specs.Rows.{AreEntriesRead, AreFormsRead}
use Rattle.rhai_flat.proofs.reading.+read_value.Given as goal

abbrev pub decreases-read_value : goal.decreases-read_value
decreases-read_value l = 4 * l.depth + 2

abbrev pub decreases-read_array : goal.decreases-read_array
decreases-read_array l = 4 * l.depth

abbrev pub decreases-read_pointer : goal.decreases-read_pointer
decreases-read_pointer l = 4 * l.depth + 1

abbrev pub decreases-read_bound : goal.decreases-read_bound
decreases-read_bound l = 4 * l.depth

abbrev pub decreases-read_map : goal.decreases-read_map
decreases-read_map l = 4 * l.depth

abbrev pub decreases-read_all : goal.decreases-read_all
decreases-read_all l = 4 * l.depth + 3

abbrev pub decreases-read_entries : goal.decreases-read_entries
decreases-read_entries l = 4 * l.depth + 3

abbrev pub invariant-read_all-values : goal.invariant-read_all-values
invariant-read_all-values l = (length l.values.items ≡ l.counter) × AreFormsRead l.initial.reader l.reader (flat_forms l.values.items)

abbrev pub invariant-read_entries-entries : goal.invariant-read_entries-entries
invariant-read_entries-entries l = (length l.object.entries.entries ≡ l.counter) × AreEntriesRead l.initial.reader l.reader (flat_entries l.object.entries.entries)
