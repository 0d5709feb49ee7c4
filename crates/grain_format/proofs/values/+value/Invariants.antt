use Rattle.std.proofs.Common.{◌≡◌, ◌+◌, ◌*◌, ◌-◌}
use Rattle.std.specs.Prelude.{None}
use Rattle.grain_format.specs.Form.{entry_forms, forms, last_key}
use Rattle.grain_format.specs.FormAt.{entries_at, value_at}
use Rattle.grain_format.specs.Lists.{repeat_at}
use Rattle.grain_format.proofs.FieldLoop.{with_front}
use Rattle.grain_format.proofs.values.+value.Given as goal

abbrev pub decreases-read_behind : goal.decreases-read_behind
decreases-read_behind l = 4 * l.depth + 3

abbrev pub decreases-read_entries : goal.decreases-read_entries
decreases-read_entries l = 4 * l.depth + 1

abbrev pub decreases-read_pointer : goal.decreases-read_pointer
decreases-read_pointer l = 4 * l.depth + 2

abbrev pub decreases-read_value : goal.decreases-read_value
decreases-read_value l = 4 * l.depth

abbrev pub decreases-read_values : goal.decreases-read_values
decreases-read_values l = 4 * l.depth + 1

abbrev pub invariant-read_values-values : goal.invariant-read_values-values
invariant-read_values-values l =
    with_front (forms l.values.items) (repeat_at (value_at l.depth) (l.count - l.index) l.cursor.left.now)
    ≡ repeat_at (value_at l.depth) l.count l.initial.cursor.left.now

abbrev pub invariant-read_entries-entries : goal.invariant-read_entries-entries
invariant-read_entries-entries l =
    with_front (entry_forms l.entries.entries) (entries_at (value_at l.depth) (l.count - l.counter) (last_key (entry_forms l.entries.entries)) l.cursor.left.now)
    ≡ entries_at (value_at l.depth) l.count None l.initial.cursor.left.now
