use Rattle.std.proofs.Common.{◌+◌, ◌*◌}
use Rattle.grain_parse.proofs.values.+value.Given as goal

abbrev pub decreases-read_value : goal.decreases-read_value
decreases-read_value l = 4 * l.depth

abbrev pub decreases-read_named : goal.decreases-read_named
decreases-read_named l = 4 * l.depth + 3

abbrev pub decreases-read_shared : goal.decreases-read_shared
decreases-read_shared l = 4 * l.depth + 1

abbrev pub decreases-read_pointer : goal.decreases-read_pointer
decreases-read_pointer l = 4 * l.depth + 2

abbrev pub decreases-read_items : goal.decreases-read_items
decreases-read_items l = 4 * l.depth + 1

abbrev pub decreases-read_entries : goal.decreases-read_entries
decreases-read_entries l = 4 * l.depth + 1
