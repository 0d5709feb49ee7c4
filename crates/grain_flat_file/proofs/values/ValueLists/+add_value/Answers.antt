use Rattle.std.proofs.Common.{◌≡◌, ◌∙◌, List, ap, length, sym}
use Rattle.std.proofs.lemmas.List.{length-map}
use Rattle.grain_base.specs.declared.value.Dynamic.{Dynamic}
use Rattle.grain_format.specs.Form.{entry_forms, forms, value_form}
use Rattle.grain_flat_file.proofs.ValueRows.{array_rows, array_texts, map_rows, map_texts, pointer_rows, pointer_texts}
use Rattle.grain_flat_file.proofs.values.ValueLists.+add_value.Goals as goal

pub add_array-returns-clause-rows : goal.add_array-returns-clause-rows
add_array-returns-clause-rows t c =
    let counted : c.len.result ≡ length (forms c.args.values.now.items) =
    let all = c.deref.ensures.value in let long = c.deref.ensures.len in c.len.ensures ∙ sym long ∙ ap (λ (vs : List Dynamic). length vs) all ∙ sym (length-map c.args.values.now.items value_form) in
    rw (c.in_ok-add_all.ensures.rows, c.in_ok-push.ensures.rows, c.deref.ensures.value) (array_rows c.args.self.now.rows.items c.len.result (forms c.args.values.now.items) counted)

pub add_array-returns-clause-texts : goal.add_array-returns-clause-texts
add_array-returns-clause-texts t c =
    rw (c.in_ok-add_all.ensures.texts, c.in_ok-push.ensures.texts, c.deref.ensures.value) (array_texts c.args.self.now.texts.items (forms c.args.values.now.items))

pub add_map-returns-clause-rows : goal.add_map-returns-clause-rows
add_map-returns-clause-rows t c =
    let counted : c.len.result ≡ length (entry_forms c.args.entries.now.entries) = let l = c.len.ensures.len in search (length-map) in
    rw (c.in_ok-add_entries.ensures.rows, c.in_ok-push.ensures.rows) (map_rows c.args.self.now.rows.items c.len.result (entry_forms c.args.entries.now.entries) counted)

pub add_map-returns-clause-texts : goal.add_map-returns-clause-texts
add_map-returns-clause-texts t c =
    rw (c.in_ok-add_entries.ensures.texts, c.in_ok-push.ensures.texts) (map_texts c.args.self.now.texts.items (entry_forms c.args.entries.now.entries))

pub add_pointer-returns-clause-rows : goal.add_pointer-returns-clause-rows
add_pointer-returns-clause-rows t c =
    let counted : c.len.result ≡ length (forms c.args.pointer.now.curry.items) =
    let all = c.deref.ensures.value in let long = c.deref.ensures.len in c.len.ensures ∙ sym long ∙ ap (λ (vs : List Dynamic). length vs) all ∙ sym (length-map c.args.pointer.now.curry.items value_form) in
    rw (c.in_ok-add_all.ensures.rows, c.in_ok-push_bytes.ensures.rows, c.in_ok-push.ensures.rows, c.deref.ensures.value, c.as_bytes.ensures.value)
    (pointer_rows c.args.self.now.rows.items c.len.result c.args.pointer.now counted)

pub add_pointer-returns-clause-texts : goal.add_pointer-returns-clause-texts
add_pointer-returns-clause-texts t c =
    rw (c.in_ok-add_all.ensures.texts, c.in_ok-push_bytes.ensures.texts, c.in_ok-push.ensures.texts, c.deref.ensures.value, c.as_bytes.ensures.value)
    (pointer_texts c.args.self.now.texts.items c.args.pointer.now)
