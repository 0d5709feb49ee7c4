use Rattle.std.proofs.Common.{◌≡◌, ◌-◌}
use Rattle.grain_pools.specs.Names.{texts}
use Rattle.grain_format.specs.Texts.{text_at}
use Rattle.grain_format.specs.Lists.{repeat_at}
use Rattle.grain_format.proofs.FieldLoop.{with_front}
use Rattle.grain_format.proofs.names.read_texts.Given as goal

abbrev pub invariant-names : goal.invariant-names
invariant-names l =
    with_front (texts l.names.items) (repeat_at text_at (l.count - l.index) l.cursor.left.now)
    ≡ repeat_at text_at l.count l.initial.cursor.left.now
