use Rattle.std.proofs.Common.{◌≡◌, ◌++◌, ◌∷◌, [], map}
use Rattle.std.proofs.lemmas.Result.{err_from_is_err_and}
use Rattle.std.proofs.lemmas.List.{map_push}
use Rattle.grain_format.specs.Form.{forms}
use Rattle.grain_format.specs.Switches.{switch_format, switch_parts}
use Rattle.grain_format.proofs.FieldLoop.{goes_on, counted_ends, counted_done}
use Rattle.grain_format.proofs.switches.read_switches.Goals as goal

pub returns-in_err-switch : goal.returns-in_err-switch
returns-in_err-switch c =
    let p = err_from_is_err_and c.from_residual-in_err-switch.result c.from_residual-in_err-switch.ensures.1 in
    rw (p.1, p.2) (counted_ends (switch_format c.args.most (forms c.args.constants.now)).reading c.in_err-switch.field-0.0 c.read_switch.new.cursor.left.now c.args.cursor.now.left.now (map (switch_parts c.args.constants.now) c.switches.switches.items) c.in_ok-count.count c.switches.index
    c.number.new.self.left.now c.switches.cursor.left.now c.in_ok-count.ensures c.switches-test.true c.in_err-switch.ensures c.switches.invariant)

pub switches-preserved : goal.switches-preserved
switches-preserved c =
    let e : map (switch_parts c.args.constants.now) c.push.new.self.items ≡ map (switch_parts c.args.constants.now) c.switches.switches.items ++ (switch_parts c.args.constants.now) c.in_ok-switch.switch ∷ [] =
    rw c.in_ok-push.ensures.items (map_push (switch_parts c.args.constants.now) c.switches.switches.items c.in_ok-switch.switch) in
    rw e (goes_on (switch_format c.args.most (forms c.args.constants.now)).reading (map (switch_parts c.args.constants.now) c.switches.switches.items) c.in_ok-count.count c.switches.index c.switches.cursor.left.now ((switch_parts c.args.constants.now) c.in_ok-switch.switch) c.read_switch.new.cursor.left.now
    _ c.switches-test.true c.in_ok-switch.ensures c.switches.invariant)

pub returns : goal.returns
returns c = counted_done (switch_format c.args.most (forms c.args.constants.now)).reading c.args.cursor.now.left.now (map (switch_parts c.args.constants.now) c.switches.switches.items) c.in_ok-count.count c.switches.index c.number.new.self.left.now c.switches.cursor.left.now c.in_ok-count.ensures c.switches-test.false c.switches.invariant
