-- A value is read by its row and then by what is in it.
use Rattle.std.proofs.Common.{◌≡◌, ℕ, ◌+◌, pos, true, false, Bool, cond, List, [], ◌∷◌, ◌++◌, length, refl, sym, ap, ◌∙◌, length-append, arith}
use Rattle.std.proofs.lemmas.List.{length-map, map_push}
use Rattle.std.specs.BTreeMap.{insert_entry}
use Rattle.std.specs.List.{All, flat_map}
use Rattle.std.specs.Map.{keys_of}
use Rattle.std.specs.String.{string_cmp}
use Rattle.std.specs.Prelude.{String, string_bytes, to_bits, from_bits}
use Rattle.std.specs.Int.{w64, cast_unsigned}
use lib.Ieee.{Float, binary64}
use Rattle.std.specs.declared.alloc.Global.{Global}
use Rattle.std.specs.declared.rc.Rc.{Rc}
use Rattle.grain_format.specs.Form.{Form, array, float, fn_ptr, form_entries_of, forms_of, object_map}
use Rattle.grain_flat_file.specs.Values.{counted_row, entry_rows, entry_texts, float_number, has_bytes, value_row, value_rows, value_texts}
use Rattle.grain_flat_file.specs.declared.records.CValue.{CValue}
use Rattle.grain_flat_file.specs.declared.tags.TheConstants as tags
use Rattle.rhai_values.specs.declared.interval.Interval.{Interval}
use Rattle.rhai_values.specs.declared.value.Value
use Rattle.rhai_values.specs.declared.value.Value.{Value, fold-roll-Value}
use Rattle.rhai_values.specs.declared.value.Value.TheOpen.{Value-F}
use Rattle.rhai_values.specs.declared.value.Value.TheVariants.{rolls-Array, rolls-Float, rolls-Map, rolls-Pointer}
use Rattle.rhai_values.specs.declared.value.List.{List as ValueList}
use Rattle.rhai_values.specs.declared.value.Object.{Object}
use Rattle.rhai_values.specs.declared.value.Pointer.{Pointer}
use Rattle.rhai_flat.specs.Forms.{flat_entries, flat_form, flat_forms, flat_step, flat_list, flat_list_step, flat_object, flat_object_step, flat_pointer, flat_pointer_step, range_form}
use Rattle.rhai_flat.specs.Rows.{AreEntriesRead, AreFormsRead, AreRead, IsFormRead, IsFormReadBehind, IsRowTaken, is_of_run, one_nan}
use Rattle.rhai_flat.specs.declared.reader.Reader.{Reader}
use Rattle.rhai_flat.proofs.LastEntry.{IsKeyBelow, entry_put}
use Rattle.rhai_flat.proofs.ReadRows.{plain_read, read_after, read_as, read_more}
use Rattle.rhai_flat.proofs.Settled.{float_row_is}
use Rattle.rhai_flat.proofs.RowsInside.{array_rows, entry_texts_listed, map_rows, pointer_rows, texts_listed}
use Rattle.rhai_flat.proofs.WrittenInside.{list_form_is, object_form_is, pointer_form_is}

-- the row of a value, and then the rest
row_and_rest : (a b : Reader) (row : CValue) (tag n : ℕ) (rs : List CValue) (ts : List ℕ) → has_bytes tag ≡ false → is_of_run tag ≡ true → row ≡ counted_row tag n → AreRead a b rs ts → (before : Reader) → IsRowTaken before row a → AreRead before b (counted_row tag n ∷ rs) ts
row_and_rest a b row tag n rs ts plain of_run is p before taken =
    read_after before a b (counted_row tag n ∷ []) rs [] ts (plain_read before a row tag n (pos 0) plain of_run is taken) p

pub range_read : (a b c : Reader) (row : CValue) (i : Bool) (r : Interval) → row ≡ counted_row (cond i tags.RANGE_INCLUSIVE tags.RANGE) 0 → AreRead a b (value_row tags.INTEGER 0 r.from ∷ []) [] → AreRead b c (value_row tags.INTEGER 0 r.to ∷ []) []
    → IsFormReadBehind row a c (range_form i r)
range_read a b c row false r is p q =
    row_and_rest a c row tags.RANGE 0 (value_row tags.INTEGER 0 r.from ∷ value_row tags.INTEGER 0 r.to ∷ []) [] refl refl is (read_after a b c (value_row tags.INTEGER 0 r.from ∷ []) (value_row tags.INTEGER 0 r.to ∷ []) [] [] p q)
range_read a b c row true r is p q =
    row_and_rest a c row tags.RANGE_INCLUSIVE 0 (value_row tags.INTEGER 0 r.from ∷ value_row tags.INTEGER 0 r.to ∷ []) [] refl refl is (read_after a b c (value_row tags.INTEGER 0 r.from ∷ []) (value_row tags.INTEGER 0 r.to ∷ []) [] [] p q)

array_form_is : (l : Rc ValueList Global) → flat_form (Value.Array l) ≡ flat_list l.value
array_form_is l = ap flat_form (sym (rolls-Array l)) ∙ fold-roll-Value Form Form Form Form flat_step flat_list_step flat_object_step flat_pointer_step (Value-F.Array l)

map_form_is : (o : Rc Object Global) → flat_form (Value.Map o) ≡ flat_object o.value
map_form_is o = ap flat_form (sym (rolls-Map o)) ∙ fold-roll-Value Form Form Form Form flat_step flat_list_step flat_object_step flat_pointer_step (Value-F.Map o)

function_form_is : (f : Rc Pointer Global) → flat_form (Value.Pointer f) ≡ flat_pointer f.value
function_form_is f = ap flat_form (sym (rolls-Pointer f)) ∙ fold-roll-Value Form Form Form Form flat_step flat_list_step flat_object_step flat_pointer_step (Value-F.Pointer f)

pub array_read : (a b : Reader) (row : CValue) (shared : Rc ValueList Global) (l : ValueList) (vs : List Value) (n : ℕ) → row ≡ counted_row tags.ARRAY n → length vs ≡ n → shared.value ≡ l → l.items.items ≡ vs
    → AreFormsRead a b (flat_forms vs) → IsFormReadBehind row a b (flat_form (Value.Array shared))
array_read a b row shared l vs n is count holds items p before taken =
    let xs = flat_forms vs in
    let m : n ≡ length xs = sym count ∙ sym (length-map vs flat_form) in
    rw (array_form_is shared, holds, list_form_is l, items)
    (read_as before b (counted_row tags.ARRAY n ∷ flat_map value_rows xs) (value_rows (array (forms_of xs))) (flat_map value_texts xs) (value_texts (array (forms_of xs)))
    (array_rows n xs m) (texts_listed xs) (row_and_rest a b row tags.ARRAY n (flat_map value_rows xs) (flat_map value_texts xs) refl refl is p before taken))

pub map_read : (a b : Reader) (row : CValue) (shared : Rc Object Global) (o : Object) (n : ℕ) → row ≡ counted_row tags.MAP n → length o.entries.entries ≡ n → shared.value ≡ o
    → AreEntriesRead a b (flat_entries o.entries.entries) → IsFormReadBehind row a b (flat_form (Value.Map shared))
map_read a b row shared o n is count holds p before taken =
    let xs = flat_entries o.entries.entries in
    let m : n ≡ length xs = sym count ∙ search (length-map) in
    rw (map_form_is shared, holds, object_form_is o)
    (read_as before b (counted_row tags.MAP n ∷ flat_map entry_rows xs) (value_rows (object_map (form_entries_of xs))) (flat_map entry_texts xs) (value_texts (object_map (form_entries_of xs)))
    (map_rows n xs m) (entry_texts_listed xs) (row_and_rest a b row tags.MAP n (flat_map entry_rows xs) (flat_map entry_texts xs) refl refl is p before taken))

pub pointer_read : (a b c : Reader) (row : CValue) (shared : Rc Pointer Global) (f : Pointer) (name : List ℕ) (vs : List Value) (n : ℕ) → row ≡ counted_row tags.FN_PTR n → length vs ≡ n → shared.value ≡ f → string_bytes f.name ≡ name → f.bound.items ≡ vs
    → AreRead a b (counted_row tags.TEXT (length name) ∷ []) name → AreFormsRead b c (flat_forms vs) → IsFormReadBehind row a c (flat_form (Value.Pointer shared))
pointer_read a b c row shared f name vs n is count holds named items p q before taken =
    let xs = flat_forms vs in
    let m : n ≡ length xs = sym count ∙ sym (length-map vs flat_form) in
    let inside = read_after a b c (counted_row tags.TEXT (length name) ∷ []) (flat_map value_rows xs) name (flat_map value_texts xs) p q in
    rw (function_form_is shared, holds, pointer_form_is f, named, items)
    (read_as before c (counted_row tags.FN_PTR n ∷ counted_row tags.TEXT (length name) ∷ flat_map value_rows xs) (value_rows (fn_ptr name (forms_of xs))) (name ++ flat_map value_texts xs) (value_texts (fn_ptr name (forms_of xs)))
    (pointer_rows n name xs m) (ap (λ (bs : List ℕ). name ++ bs) (texts_listed xs)) (row_and_rest a c row tags.FN_PTR n (counted_row tags.TEXT (length name) ∷ flat_map value_rows xs) (name ++ flat_map value_texts xs) refl refl is inside before taken))

float_form_is : (x : Float) → flat_form (Value.Float x) ≡ float (to_bits binary64 x)
float_form_is x = ap flat_form (sym (rolls-Float x)) ∙ fold-roll-Value Form Form Form Form flat_step flat_list_step flat_object_step flat_pointer_step (Value-F.Float x)

pub float_read : (a : Reader) (row : CValue) (x : Float) → row.tag ≡ tags.FLOAT → row.count ≡ 0 → x ≡ from_bits binary64 (cast_unsigned w64 row.number) → IsFormReadBehind row a a (flat_form (Value.Float x))
float_read a row x tag count is before taken =
    rw (float_form_is x, is) (plain_read before a row tags.FLOAT 0 (float_number (one_nan (cast_unsigned w64 row.number))) refl refl (float_row_is row tag count taken.settled_is) taken)

-- ---- one more, as a loop reads it

pub value_more : (start here next : Reader) (old new : List Value) (v : Value) (n : ℕ) → new ≡ old ++ v ∷ [] → (length old ≡ n) × AreFormsRead start here (flat_forms old) → IsFormRead here next (flat_form v) → (length new ≡ n + 1) × AreFormsRead start next (flat_forms new)
value_more start here next old new v n is before one =
    let longer : length new ≡ length old + 1 = ap (λ (ws : List Value). length ws) is ∙ length-append old (v ∷ []) in
    let counted = before.0 in
    (omega arith, read_more value_rows value_texts start here next (flat_forms old) (flat_forms new) (flat_form v) (ap flat_forms is ∙ map_push flat_form old v) before.1 one)

pub entry_more : (start here named next : Reader) (old new : List (String Global × Value)) (k : String Global) (v : Value) (key : List ℕ) (n : ℕ) → string_bytes k ≡ key → All (IsKeyBelow key) (keys_of old) → new ≡ insert_entry string_cmp old k v
    → (length old ≡ n) × AreEntriesRead start here (flat_entries old) → AreRead here named (counted_row tags.TEXT (length key) ∷ []) key → IsFormRead named next (flat_form v) → (length new ≡ n + 1) × AreEntriesRead start next (flat_entries new)
entry_more start here named next old new k v key n is below put before p q =
    let made = entry_put old new k v key is below put in
    let longer = made.1 in
    let counted = before.0 in (
      omega arith,
      read_more entry_rows entry_texts start here next (flat_entries old) (flat_entries new) (key, flat_form v) made.0 before.1
          (read_after here named next (counted_row tags.TEXT (length key) ∷ []) (value_rows (flat_form v)) key (value_texts (flat_form v)) p q),
    )
