use Rattle.std.proofs.Common.{◌≡◌, ◌++◌, ◌∷◌, [], map}
use Rattle.std.proofs.lemmas.Result.{err_from_is_err_and}
use Rattle.std.proofs.lemmas.List.{map_push}
use Rattle.grain_format.proofs.FieldLoop.{goes_on, counted_ends, counted_done}
use Rattle.grain_format.proofs.lists.VecFileField.read.Goals as goal

pub returns-in_err-item : goal.returns-in_err-item
returns-in_err-item g c =
    let p = err_from_is_err_and c.from_residual-in_err-item.result c.from_residual-in_err-item.ensures.1 in
    rw (p.1, p.2) (counted_ends g.T.FileField.format.reading c.in_err-item.field-0.0 c.read.new.cursor.left.now c.args.cursor.now.left.now (map g.T.FileField.view c.items.items.items) c.in_ok-count.count c.items.index
    c.number.new.self.left.now c.items.cursor.left.now c.in_ok-count.ensures c.items-test.true c.in_err-item.ensures c.items.invariant)

pub items-preserved : goal.items-preserved
items-preserved g c =
    let e : map g.T.FileField.view c.push.new.self.items ≡ map g.T.FileField.view c.items.items.items ++ g.T.FileField.view c.in_ok-item.item ∷ [] =
    rw c.in_ok-push.ensures.items (map_push g.T.FileField.view c.items.items.items c.in_ok-item.item) in
    rw e (goes_on g.T.FileField.format.reading (map g.T.FileField.view c.items.items.items) c.in_ok-count.count c.items.index c.items.cursor.left.now (g.T.FileField.view c.in_ok-item.item) c.read.new.cursor.left.now
    _ c.items-test.true c.in_ok-item.ensures c.items.invariant)

pub returns : goal.returns
returns g c = counted_done g.T.FileField.format.reading c.args.cursor.now.left.now (map g.T.FileField.view c.items.items.items) c.in_ok-count.count c.items.index c.number.new.self.left.now c.items.cursor.left.now c.in_ok-count.ensures c.items-test.false c.items.invariant
