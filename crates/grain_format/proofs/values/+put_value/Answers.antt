use Rattle.std.specs.Prelude.{string_bytes}
use Rattle.std.proofs.Common.{◌≡◌, ◌++◌, ◌∙◌, ℕ, List, ap, append_assoc}
use Rattle.std.proofs.lemmas.Result.{err_from_is_err_and}
use Rattle.grain_format.specs.Form.{EntryFits, IsSound, entry_forms, entry_spelled, forms, spelled, value_form, value_refusal}
use Rattle.grain_format.specs.Texts.{counted_bytes}
use Rattle.grain_format.specs.FormSound.{array_is_sound, entry_refusal, pointer_is_sound, map_is_sound, forms_refused, entries_refused}
use Rattle.grain_format.proofs.KeyOrder.{ascending}
use Rattle.grain_format.proofs.PointerForm.{pointer_form_is}
use Rattle.grain_format.proofs.PutLoop.{left_is, spelled_more, fits_more, decided_more}
use Rattle.grain_format.proofs.TaggedBytes.{array_pushed, map_pushed, pointer_pushed}
use Rattle.grain_format.proofs.values.+put_value.Goals as goal

pub put_array-returns-clause-spelled : goal.put_array-returns-clause-spelled
put_array-returns-clause-spelled t c = rw (c.in_ok-put_values.ensures.spelled, c.in_ok-push.ensures.items, c.deref.ensures.value) (array_pushed c.args.out.now.items (forms c.args.values.now.items))

pub put_array-returns-clause-sound : goal.put_array-returns-clause-sound
put_array-returns-clause-sound t c = array_is_sound (forms c.args.values.now.items) (rw c.deref.ensures.value at c.in_ok-put_values.ensures.sound)

pub put_array-returns-clause-decides : goal.put_array-returns-clause-decides
put_array-returns-clause-decides t c = rw (forms_refused (forms c.args.values.now.items)) (rw c.deref.ensures.value at c.in_ok-put_values.ensures.decides)

pub put_map-returns-clause-spelled : goal.put_map-returns-clause-spelled
put_map-returns-clause-spelled t c = rw (c.in_ok-put_entries.ensures.spelled, c.in_ok-push.ensures.items) (map_pushed c.args.out.now.items (entry_forms c.args.entries.now.entries))

pub put_map-returns-clause-sound : goal.put_map-returns-clause-sound
put_map-returns-clause-sound t c = map_is_sound (entry_forms c.args.entries.now.entries) c.in_ok-put_entries.ensures.count c.in_ok-put_entries.ensures.sound c.in_ok-put_entries.ensures.ascend

pub put_map-returns-clause-decides : goal.put_map-returns-clause-decides
put_map-returns-clause-decides t c = rw (entries_refused (entry_forms c.args.entries.now.entries)) c.in_ok-put_entries.ensures.decides

pub put_entries-returns-clause-ascend : goal.put_entries-returns-clause-ascend
put_entries-returns-clause-ascend t c = ascending c.args.entries.now.entries c.iter-key-items.ensures.ordered

pub put_array-returns-in_err-put_values-clause-decides : goal.put_array-returns-in_err-put_values-clause-decides
put_array-returns-in_err-put_values-clause-decides t c =
    let p = err_from_is_err_and c.from_residual-in_err-put_values.result c.from_residual-in_err-put_values.ensures.1 in
    rw (p.1, p.2, forms_refused (forms c.args.values.now.items)) (rw c.deref.ensures.value at c.in_err-put_values.ensures.decides)

pub put_map-returns-in_err-put_entries-clause-decides : goal.put_map-returns-in_err-put_entries-clause-decides
put_map-returns-in_err-put_entries-clause-decides t c =
    let p = err_from_is_err_and c.from_residual-in_err-put_entries.result c.from_residual-in_err-put_entries.ensures.1 in
    rw (p.1, p.2, entries_refused (entry_forms c.args.entries.now.entries)) c.in_err-put_entries.ensures.decides

pub put_pointer-returns-clause-spelled : goal.put_pointer-returns-clause-spelled
put_pointer-returns-clause-spelled t c =
    rw (pointer_form_is c.args.pointer.now, c.in_ok-put_values.ensures.spelled, c.in_ok-put_string.ensures.spelled, c.in_ok-push.ensures.items, c.deref.ensures.value)
    (pointer_pushed c.args.out.now.items (string_bytes c.args.pointer.now.name) (forms c.args.pointer.now.curry.items))

pub put_pointer-returns-clause-sound : goal.put_pointer-returns-clause-sound
put_pointer-returns-clause-sound t c =
    rw (pointer_form_is c.args.pointer.now) (pointer_is_sound (string_bytes c.args.pointer.now.name) (forms c.args.pointer.now.curry.items) c.in_ok-put_string.ensures.fits (rw c.deref.ensures.value at c.in_ok-put_values.ensures.sound))

pub put_pointer-returns-clause-decides : goal.put_pointer-returns-clause-decides
put_pointer-returns-clause-decides t c =
    rw (pointer_form_is c.args.pointer.now, forms_refused (forms c.args.pointer.now.curry.items)) (rw c.deref.ensures.value at c.in_ok-put_values.ensures.decides)

pub put_pointer-returns-in_err-put_values-clause-decides : goal.put_pointer-returns-in_err-put_values-clause-decides
put_pointer-returns-in_err-put_values-clause-decides t c =
    let p = err_from_is_err_and c.from_residual-in_err-put_values.result c.from_residual-in_err-put_values.ensures.1 in
    rw (p.1, p.2, pointer_form_is c.args.pointer.now, forms_refused (forms c.args.pointer.now.curry.items)) (rw c.deref.ensures.value at c.in_err-put_values.ensures.decides)

pub put_values-loop-value-preserved : goal.put_values-loop-value-preserved
put_values-loop-value-preserved t c =
    let before = c.loop-value.invariant in
    let written = c.in_ok-put_value.ensures in
    let is = left_is value_form c.args.values.now c.loop-value.value-index c.value-item.result c.loop-value-test.true c.value-item.is in
    record {
      spelled = rw written.spelled (spelled_more is spelled _ _ before.spelled);
      sound = fits_more is IsSound before.sound written.sound;
      decided = decided_more is value_refusal _ before.decided written.decides;
    }

pub put_entries-loop-key-preserved : goal.put_entries-loop-key-preserved
put_entries-loop-key-preserved t c =
    let before = c.loop-key.invariant in
    let key = c.in_ok-put_string.ensures in
    let written = c.in_ok-put_value.ensures in
    let is = ap entry_forms c.in-Some.ensures.steps in
    let form = value_form c.in-Some.value.now in
    let appended : c.put_value.new.out.items ≡ c.loop-key.out.items ++ entry_spelled (string_bytes c.in-Some.key.now, form) =
    written.spelled ∙ ap (λ (front : List ℕ). front ++ spelled form) key.spelled ∙ append_assoc c.loop-key.out.items (counted_bytes (string_bytes c.in-Some.key.now)) (spelled form) in
    record {
      spelled = rw appended (spelled_more is entry_spelled _ _ before.spelled);
      sound = fits_more is (EntryFits IsSound) before.sound (key.fits, written.sound);
      decided = decided_more is entry_refusal _ before.decided written.decides;
    }
