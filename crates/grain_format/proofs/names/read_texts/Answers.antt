use Rattle.std.proofs.Common.{◌≡◌, ◌++◌, ◌∷◌, []}
use Rattle.std.proofs.lemmas.Result.{err_from_is_err_and}
use Rattle.std.proofs.lemmas.List.{map_push}
use Rattle.grain_pools.specs.Names.{texts}
use Rattle.grain_format.specs.Texts.{text_at}
use Rattle.grain_format.proofs.FieldLoop.{goes_on, counted_ends, counted_done}
use Rattle.grain_format.proofs.names.read_texts.Goals as goal

pub returns-in_err-name : goal.returns-in_err-name
returns-in_err-name c =
    let p = err_from_is_err_and c.from_residual-in_err-name.result c.from_residual-in_err-name.ensures.1 in
    rw (p.1, p.2) (counted_ends text_at c.in_err-name.field-0.0 c.text.new.self.left.now c.args.cursor.now.left.now (texts c.names.names.items) c.in_ok-count.count c.names.index
    c.number.new.self.left.now c.names.cursor.left.now c.in_ok-count.ensures c.names-test.true c.in_err-name.ensures c.names.invariant)

pub names-preserved : goal.names-preserved
names-preserved c =
    let e : texts c.push.new.self.items ≡ texts c.names.names.items ++ c.in_ok-name.name.now ∷ [] =
    rw c.in_ok-push.ensures.items (map_push (λ n. n.now) c.names.names.items c.in_ok-name.name) in
    rw e (goes_on text_at (texts c.names.names.items) c.in_ok-count.count c.names.index c.names.cursor.left.now c.in_ok-name.name.now c.text.new.self.left.now
    _ c.names-test.true c.in_ok-name.ensures c.names.invariant)

pub returns : goal.returns
returns c = counted_done text_at c.args.cursor.now.left.now (texts c.names.names.items) c.in_ok-count.count c.names.index c.number.new.self.left.now c.names.cursor.left.now c.in_ok-count.ensures c.names-test.false c.names.invariant
