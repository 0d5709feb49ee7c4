use Rattle.std.proofs.Common.{◌≡◌, ◌-◌, map}
use Rattle.grain_format.specs.Form.{forms}
use Rattle.grain_format.specs.Switches.{switch_format, switch_parts}
use Rattle.grain_format.specs.Lists.{repeat_at}
use Rattle.grain_format.proofs.FieldLoop.{with_front}
use Rattle.grain_format.proofs.switches.read_switches.Given as goal

abbrev pub invariant-switches : goal.invariant-switches
invariant-switches l =
    with_front (map (switch_parts l.constants) l.switches.items) (repeat_at (switch_format l.most (forms l.constants)).reading (l.count - l.index) l.cursor.left.now)
    ≡ repeat_at (switch_format l.most (forms l.constants)).reading l.count l.initial.cursor.left.now
