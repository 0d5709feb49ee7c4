use Rattle.std.proofs.Common.{◌≡◌, ◌-◌, map}
use Rattle.grain_format.specs.Lists.{repeat_at}
use Rattle.grain_format.proofs.FieldLoop.{with_front}
use Rattle.grain_format.proofs.lists.VecFileField.read.Given as goal

abbrev pub invariant-items : goal.invariant-items
invariant-items g l =
    with_front (map g.T.FileField.view l.items.items) (repeat_at g.T.FileField.format.reading (l.count - l.index) l.cursor.left.now)
    ≡ repeat_at g.T.FileField.format.reading l.count l.initial.cursor.left.now
