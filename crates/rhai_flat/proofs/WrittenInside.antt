-- A value that holds others is appended by its row and then by them.
use Rattle.std.proofs.Common.{◌≡◌, ℕ, List, [], ◌∷◌, ◌++◌, length, sym, ap, ◌∙◌}
use Rattle.std.proofs.lemmas.List.{length-map}
use Rattle.std.specs.List.{flat_map}
use Rattle.std.specs.Prelude.{String, string_bytes}
use Rattle.std.specs.declared.alloc.Global.{Global}
use Rattle.grain_format.specs.Form.{Form, array, fn_ptr, form_entries_of, forms_of, object_map}
use Rattle.grain_flat_file.specs.Values.{counted_row, entry_rows, entry_texts, value_rows, value_texts}
use Rattle.grain_flat_file.specs.declared.tags.TheConstants as tags
use Rattle.rhai_values.specs.declared.value.Value.{Value}
use Rattle.rhai_values.specs.declared.value.List.{List as ValueList, fold_out-List}
use Rattle.rhai_values.specs.declared.value.Object.{Object, fold_out-Object}
use Rattle.rhai_values.specs.declared.value.Pointer.{Pointer, fold_out-Pointer}
use Rattle.rhai_flat.specs.Forms.{flat_entries, flat_form, flat_forms, flat_step, flat_list, flat_list_step, flat_object, flat_object_step, flat_pointer, flat_pointer_step}
use Rattle.rhai_flat.specs.Rows.{IsAppended}
use Rattle.rhai_flat.specs.declared.writing.FlatValues.{FlatValues}
use Rattle.rhai_flat.proofs.Appending.{appended_after, appended_as}
use Rattle.rhai_flat.proofs.RowsInside.{array_rows, entry_texts_listed, map_rows, pointer_rows, texts_listed}

pub list_form_is : (l : ValueList) → flat_list l ≡ array (forms_of (flat_forms l.items.items))
list_form_is l = fold_out-List Form Form Form Form flat_step flat_list_step flat_object_step flat_pointer_step l

pub object_form_is : (o : Object) → flat_object o ≡ object_map (form_entries_of (flat_entries o.entries.entries))
object_form_is o = fold_out-Object Form Form Form Form flat_step flat_list_step flat_object_step flat_pointer_step o

pub pointer_form_is : (p : Pointer) → flat_pointer p ≡ fn_ptr (string_bytes p.name) (forms_of (flat_forms p.bound.items))
pointer_form_is p = fold_out-Pointer Form Form Form Form flat_step flat_list_step flat_object_step flat_pointer_step p

pub array_appended : (a b c : FlatValues) (l : ValueList) (us vs : List Value) → us ≡ l.items.items → vs ≡ l.items.items
    → IsAppended a b (counted_row tags.ARRAY (length us) ∷ []) [] → IsAppended b c (flat_map value_rows (flat_forms vs)) (flat_map value_texts (flat_forms vs))
    → IsAppended a c (value_rows (flat_list l)) (value_texts (flat_list l))
array_appended a b c l us vs e f p q =
    let xs = flat_forms l.items.items in
    let n : length us ≡ length xs = ap (λ (ws : List Value). length ws) e ∙ sym (length-map l.items.items flat_form) in
    rw (list_form_is l)
    (appended_as a c (counted_row tags.ARRAY (length us) ∷ flat_map value_rows (flat_forms vs)) (value_rows (array (forms_of xs))) (flat_map value_texts (flat_forms vs)) (value_texts (array (forms_of xs)))
    (ap (λ (ws : List Value). counted_row tags.ARRAY (length us) ∷ flat_map value_rows (flat_forms ws)) f ∙ array_rows (length us) xs n)
    (ap (λ (ws : List Value). flat_map value_texts (flat_forms ws)) f ∙ texts_listed xs)
    (appended_after a b c (counted_row tags.ARRAY (length us) ∷ []) (flat_map value_rows (flat_forms vs)) [] (flat_map value_texts (flat_forms vs)) p q))

pub map_appended : (a b c : FlatValues) (o : Object) (n : ℕ) (es : List (String Global × Value)) → n ≡ length (flat_entries o.entries.entries) → es ≡ o.entries.entries
    → IsAppended a b (counted_row tags.MAP n ∷ []) [] → IsAppended b c (flat_map entry_rows (flat_entries es)) (flat_map entry_texts (flat_entries es))
    → IsAppended a c (value_rows (flat_object o)) (value_texts (flat_object o))
map_appended a b c o n es e f p q =
    let xs = flat_entries o.entries.entries in
    rw (object_form_is o)
    (appended_as a c (counted_row tags.MAP n ∷ flat_map entry_rows (flat_entries es)) (value_rows (object_map (form_entries_of xs))) (flat_map entry_texts (flat_entries es)) (value_texts (object_map (form_entries_of xs)))
    (ap (λ (ds : List (String Global × Value)). counted_row tags.MAP n ∷ flat_map entry_rows (flat_entries ds)) f ∙ map_rows n xs e)
    (ap (λ (ds : List (String Global × Value)). flat_map entry_texts (flat_entries ds)) f ∙ entry_texts_listed xs)
    (appended_after a b c (counted_row tags.MAP n ∷ []) (flat_map entry_rows (flat_entries es)) [] (flat_map entry_texts (flat_entries es)) p q))

pub bytes_as : (a b : FlatValues) (tag : ℕ) (bs cs : List ℕ) → bs ≡ cs → IsAppended a b (counted_row tag (length bs) ∷ []) bs → IsAppended a b (counted_row tag (length cs) ∷ []) cs
bytes_as a b tag bs cs e p =
    appended_as a b (counted_row tag (length bs) ∷ []) (counted_row tag (length cs) ∷ []) bs cs (ap (λ (ds : List ℕ). counted_row tag (length ds) ∷ []) e) e p

pub pointer_appended : (a b c d : FlatValues) (f : Pointer) (us vs : List Value) (name : List ℕ) → us ≡ f.bound.items → vs ≡ f.bound.items → name ≡ string_bytes f.name
    → IsAppended a b (counted_row tags.FN_PTR (length us) ∷ []) [] → IsAppended b c (counted_row tags.TEXT (length name) ∷ []) name → IsAppended c d (flat_map value_rows (flat_forms vs)) (flat_map value_texts (flat_forms vs))
    → IsAppended a d (value_rows (flat_pointer f)) (value_texts (flat_pointer f))
pointer_appended a b c d f us vs name e g h p q r =
    let xs = flat_forms f.bound.items in
    let text = string_bytes f.name in
    let n : length us ≡ length xs = ap (λ (ws : List Value). length ws) e ∙ sym (length-map f.bound.items flat_form) in
    rw (pointer_form_is f)
    (appended_as a d (counted_row tags.FN_PTR (length us) ∷ counted_row tags.TEXT (length text) ∷ flat_map value_rows (flat_forms vs)) (value_rows (fn_ptr text (forms_of xs))) (text ++ flat_map value_texts (flat_forms vs)) (value_texts (fn_ptr text (forms_of xs)))
    (ap (λ (ws : List Value). counted_row tags.FN_PTR (length us) ∷ counted_row tags.TEXT (length text) ∷ flat_map value_rows (flat_forms ws)) g ∙ pointer_rows (length us) text xs n)
    (ap (λ (ws : List Value). text ++ flat_map value_texts (flat_forms ws)) g ∙ ap (λ (bs : List ℕ). text ++ bs) (texts_listed xs))
    (appended_after a b d (counted_row tags.FN_PTR (length us) ∷ []) (counted_row tags.TEXT (length text) ∷ flat_map value_rows (flat_forms vs)) [] (text ++ flat_map value_texts (flat_forms vs)) p
    (appended_after b c d (counted_row tags.TEXT (length text) ∷ []) (flat_map value_rows (flat_forms vs)) text (flat_map value_texts (flat_forms vs)) (bytes_as b c tags.TEXT name text h q) r)))
