use Rattle.std.proofs.Common.{◌≡◌, ◌∷◌, [], ap, ◌∙◌, length, arith}
use Rattle.std.proofs.lemmas.List.{at_drop_all, length-map}
use Rattle.std.specs.Prelude.{string_bytes}
use Rattle.grain_flat_file.specs.Values.{counted_row, entry_rows, entry_texts, value_rows, value_texts}
use Rattle.grain_flat_file.specs.declared.tags.TheConstants as tags
use Rattle.rhai_flat.specs.Forms.{flat_entries, flat_form, flat_forms}
use Rattle.rhai_flat.proofs.Appending.{appended_after, leaves_less, leaves_none, left_begins}
use Rattle.rhai_flat.proofs.WrittenInside.{array_appended, bytes_as, map_appended, pointer_appended}
use Rattle.rhai_flat.proofs.writing.FlatValues.+add_value.Goals as goal

pub add_all-loop-value-preserved : goal.add_all-loop-value-preserved
add_all-loop-value-preserved t c =
    leaves_less value_rows value_texts c.args.self.now c.loop-value.self c.add.new.self (flat_forms c.args.values.now) _ _ (flat_form c.value-item.result)
    (left_begins flat_form c.args.values.now c.loop-value.value-index c.value-item.result c.loop-value-test.true c.value-item.is) c.loop-value.invariant c.in_ok-add.ensures

pub add_all-returns : goal.add_all-returns
add_all-returns t c =
    leaves_none value_rows value_texts c.args.self.now c.loop-value.self (flat_forms c.args.values.now) _ (at_drop_all flat_forms c.args.values.now c.loop-value.value-index (let e = c.loop-value-test.false in omega arith)) c.loop-value.invariant

pub add_array-returns : goal.add_array-returns
add_array-returns t c =
    array_appended c.args.self.now c.push_plain.new.self c.add_all.new.self c.args.list.now c.items.result.now c.items-2.result.now c.items.ensures c.items-2.ensures c.in_ok-push_plain.ensures c.in_ok-add_all.ensures

pub add_entries-loop-key-preserved : goal.add_entries-loop-key-preserved
add_entries-loop-key-preserved t c =
    let key = string_bytes c.in-Some.key.now in
    let form = flat_form c.in-Some.value.now in
    let named = bytes_as c.loop-key.self c.push_bytes.new.self tags.TEXT c.as_bytes.result.now key c.as_bytes.ensures.value c.in_ok-push_bytes.ensures in
    leaves_less entry_rows entry_texts c.args.self.now c.loop-key.self c.add.new.self (flat_entries c.args.entries.now.entries) (flat_entries c.loop-key.key-iterator) (flat_entries c.next.new.self) (key, form)
    (ap flat_entries c.in-Some.ensures.steps) c.loop-key.invariant
    (appended_after c.loop-key.self c.push_bytes.new.self c.add.new.self (counted_row tags.TEXT (length key) ∷ []) (value_rows form) key (value_texts form) named c.in_ok-add.ensures)

pub add_entries-returns : goal.add_entries-returns
add_entries-returns t c =
    leaves_none entry_rows entry_texts c.args.self.now c.loop-key.self (flat_entries c.args.entries.now.entries) (flat_entries c.loop-key.key-iterator) (ap flat_entries c.in-None.ensures.steps.0) c.loop-key.invariant

pub add_map-returns : goal.add_map-returns
add_map-returns t c =
    let counted : c.len.result ≡ length (flat_entries c.args.object.now.entries.entries) = c.len.ensures.len ∙ ap (λ (m : _). length m.entries) c.entries.ensures ∙ search (length-map) in
    map_appended c.args.self.now c.push_plain.new.self c.add_entries.new.self c.args.object.now c.len.result c.entries-2.result.now.entries counted (ap (λ (m : _). m.entries) c.entries-2.ensures) c.in_ok-push_plain.ensures c.in_ok-add_entries.ensures

pub add_pointer-returns : goal.add_pointer-returns
add_pointer-returns t c =
    pointer_appended c.args.self.now c.push_plain.new.self c.push_bytes.new.self c.add_all.new.self c.args.pointer.now c.bound.result.now c.bound-2.result.now c.as_bytes.result.now c.bound.ensures c.bound-2.ensures
    (c.as_bytes.ensures.value ∙ c.name.ensures) c.in_ok-push_plain.ensures c.in_ok-push_bytes.ensures c.in_ok-add_all.ensures
