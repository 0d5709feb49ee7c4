use Rattle.std.proofs.Common.{◌≡◌, ◌++◌, ◌∷◌, [], sym, ◌∙◌}
use Rattle.std.proofs.lemmas.Result.{err_from_is_err_and}
use Rattle.std.proofs.lemmas.List.{map_push}
use Rattle.grain_format.specs.Form.{entry_forms, value_form, forms}
use Rattle.grain_format.specs.FormAt.{value_at}
use Rattle.grain_format.proofs.EntriesLoop.{key_ends, order_ends, value_ends, entry_goes_on, entries_done}
use Rattle.grain_format.proofs.FieldLoop.{goes_on, counted_ends, counted_done}
use Rattle.grain_format.proofs.MapEnd.{inserted}
use Rattle.grain_format.proofs.Tags.{unknown_tag}
use Rattle.grain_format.proofs.values.+value.Goals as goal

pub read_value-returns-then-tag-gt13 : goal.read_value-returns-then-tag-gt13
read_value-returns-then-tag-gt13 t c = unknown_tag _ _ _ _ _ c.in-Some-split_first.ensures.cases.0 c.in-Some.ensures c.if-tag-gt13.true

pub read_values-returns-in_err-value : goal.read_values-returns-in_err-value
read_values-returns-in_err-value t c =
    let p = err_from_is_err_and c.from_residual-in_err-value.result c.from_residual-in_err-value.ensures.1 in
    rw (p.1, p.2) (counted_ends (value_at c.args.depth) c.in_err-value.field-0.0 c.read_value.new.cursor.left.now c.args.cursor.now.left.now (forms c.values.values.items) c.in_ok-count.count c.values.index
    c.number.new.self.left.now c.values.cursor.left.now c.in_ok-count.ensures c.values-test.true c.in_err-value.ensures c.values.invariant)

pub read_values-values-preserved : goal.read_values-values-preserved
read_values-values-preserved t c =
    let e : forms c.push.new.self.items ≡ forms c.values.values.items ++ value_form c.in_ok-value.value ∷ [] =
    rw c.in_ok-push.ensures.items (map_push value_form c.values.values.items c.in_ok-value.value) in
    rw e (goes_on (value_at c.args.depth) (forms c.values.values.items) c.in_ok-count.count c.values.index c.values.cursor.left.now (value_form c.in_ok-value.value) c.read_value.new.cursor.left.now
    _ c.values-test.true c.in_ok-value.ensures c.values.invariant)

pub read_values-returns : goal.read_values-returns
read_values-returns t c = counted_done (value_at c.args.depth) c.args.cursor.now.left.now (forms c.values.values.items) c.in_ok-count.count c.values.index c.number.new.self.left.now c.values.cursor.left.now c.in_ok-count.ensures c.values-test.false c.values.invariant

pub read_entries-returns-in_err-key : goal.read_entries-returns-in_err-key
read_entries-returns-in_err-key t c =
    let p = err_from_is_err_and c.from_residual-in_err-key.result c.from_residual-in_err-key.ensures.1 in
    rw (p.1, p.2) (key_ends (value_at c.args.depth) c.in_err-key.field-0.0 c.text.new.self.left.now c.args.cursor.now.left.now (entry_forms c.entries.entries.entries) c.in_ok-count.count c.entries.counter
    c.number.new.self.left.now c.entries.cursor.left.now c.in_ok-count.ensures c.entries-test.true c.in_err-key.ensures c.entries.invariant)

pub read_entries-returns-then-not-comes_after : goal.read_entries-returns-then-not-comes_after
read_entries-returns-then-not-comes_after t c =
    order_ends (value_at c.args.depth) c.args.cursor.now.left.now c.in_ok-key.key.now c.text.new.self.left.now (entry_forms c.entries.entries.entries) c.in_ok-count.count c.entries.counter
    c.number.new.self.left.now c.entries.cursor.left.now c.in_ok-count.ensures c.entries-test.true c.in_ok-key.ensures (sym c.comes_after.ensures ∙ c.if-not-comes_after.true) c.entries.invariant

pub read_entries-returns-in_err-value : goal.read_entries-returns-in_err-value
read_entries-returns-in_err-value t c =
    let p = err_from_is_err_and c.from_residual-in_err-value.result c.from_residual-in_err-value.ensures.1 in
    rw (p.1, p.2) (value_ends (value_at c.args.depth) c.in_err-value.field-0.0 c.read_value.new.cursor.left.now c.args.cursor.now.left.now c.in_ok-key.key.now c.text.new.self.left.now (entry_forms c.entries.entries.entries) c.in_ok-count.count c.entries.counter
    c.number.new.self.left.now c.entries.cursor.left.now c.in_ok-count.ensures c.entries-test.true c.in_ok-key.ensures (sym c.comes_after.ensures ∙ c.if-not-comes_after.false) c.in_err-value.ensures c.entries.invariant)

pub read_entries-entries-preserved : goal.read_entries-entries-preserved
read_entries-entries-preserved t c =
    let later = sym c.comes_after.ensures ∙ c.if-not-comes_after.false in
    let e = inserted c.entries.entries.entries c.insert.new.self.entries c.in_ok-key-2.key c.in_ok-value.value c.in_ok-key.key.now c.in_ok-insert.ensures.was_ordered c.in_ok-key-2.ensures.ok later c.in_ok-insert.ensures.entries in
    rw e (entry_goes_on (value_at c.args.depth) c.in_ok-key.key.now c.text.new.self.left.now c.read_value.new.cursor.left.now (value_form c.in_ok-value.value) (entry_forms c.entries.entries.entries) c.in_ok-count.count c.entries.counter
    c.entries.cursor.left.now _ c.entries-test.true c.in_ok-key.ensures later c.in_ok-value.ensures c.entries.invariant)

pub read_entries-returns : goal.read_entries-returns
read_entries-returns t c = entries_done (value_at c.args.depth) c.args.cursor.now.left.now (entry_forms c.entries.entries.entries) c.in_ok-count.count c.entries.counter c.number.new.self.left.now c.entries.cursor.left.now c.in_ok-count.ensures c.entries-test.false c.entries.invariant
