-- The rows of a value that holds others.
use Rattle.std.proofs.Common.{◌≡◌, ℕ, List, [], ◌∷◌, ◌++◌, length, refl, sym, ap, ◌∙◌, append_assoc}
use Rattle.std.specs.List.{flat_map}
use Rattle.std.specs.Prelude.{string_bytes}
use Rattle.grain_base.specs.declared.value.FnPtr.{FnPtr}
use Rattle.grain_format.specs.Form.{Form, array, object_map, form_entries_of, forms, forms_of, listed_entries, listed_forms, pointer_form}
use Rattle.grain_format.proofs.PointerForm.{pointer_form_is}
use Rattle.grain_flat_file.specs.Values.{counted_row, entry_rows, entry_texts, rows_of_entries, rows_of_forms, texts_of_entries, texts_of_forms, value_rows, value_texts}
use Rattle.grain_flat_file.specs.declared.records.CValue.{CValue}
use Rattle.grain_flat_file.specs.declared.tags.TheConstants as tags

rows_listed : (xs : List Form) → rows_of_forms (forms_of xs) ≡ flat_map value_rows xs
rows_listed [] = refl
rows_listed (x ∷ xs) = ap (λ rs. value_rows x ++ rs) (rows_listed xs)

texts_listed : (xs : List Form) → texts_of_forms (forms_of xs) ≡ flat_map value_texts xs
texts_listed [] = refl
texts_listed (x ∷ xs) = ap (λ bs. value_texts x ++ bs) (texts_listed xs)

as_listed : (xs : List Form) → listed_forms (forms_of xs) ≡ xs
as_listed [] = refl
as_listed (x ∷ xs) = ap (λ ys. x ∷ ys) (as_listed xs)

entry_rows_listed : (es : List (List ℕ × Form)) → rows_of_entries (form_entries_of es) ≡ flat_map entry_rows es
entry_rows_listed [] = refl
entry_rows_listed (e ∷ es) = ap (λ rs. entry_rows e ++ rs) (entry_rows_listed es)

entry_texts_listed : (es : List (List ℕ × Form)) → texts_of_entries (form_entries_of es) ≡ flat_map entry_texts es
entry_texts_listed [] = refl
entry_texts_listed (e ∷ es) = ap (λ bs. entry_texts e ++ bs) (entry_texts_listed es)

entries_as_listed : (es : List (List ℕ × Form)) → listed_entries (form_entries_of es) ≡ es
entries_as_listed [] = refl
entries_as_listed (e ∷ es) = ap (λ fs. (e.0, e.1) ∷ fs) (entries_as_listed es)

-- appended one by one they are those of the whole

pub array_rows : (old : List CValue) (n : ℕ) (xs : List Form) → n ≡ length xs → (old ++ counted_row tags.ARRAY n ∷ []) ++ flat_map value_rows xs ≡ old ++ value_rows (array (forms_of xs))
array_rows old n xs e = rw (e, rows_listed xs, as_listed xs) (append_assoc old (counted_row tags.ARRAY (length xs) ∷ []) (flat_map value_rows xs))

pub array_texts : (old : List ℕ) (xs : List Form) → old ++ flat_map value_texts xs ≡ old ++ value_texts (array (forms_of xs))
array_texts old xs = ap (λ (b : List ℕ). old ++ b) (sym (texts_listed xs))

pub map_rows : (old : List CValue) (n : ℕ) (es : List (List ℕ × Form)) → n ≡ length es → (old ++ counted_row tags.MAP n ∷ []) ++ flat_map entry_rows es ≡ old ++ value_rows (object_map (form_entries_of es))
map_rows old n es e = rw (e, entry_rows_listed es, entries_as_listed es) (append_assoc old (counted_row tags.MAP (length es) ∷ []) (flat_map entry_rows es))

pub map_texts : (old : List ℕ) (es : List (List ℕ × Form)) → old ++ flat_map entry_texts es ≡ old ++ value_texts (object_map (form_entries_of es))
map_texts old es = ap (λ (b : List ℕ). old ++ b) (sym (entry_texts_listed es))

pub pointer_rows : (old : List CValue) (n : ℕ) (p : FnPtr) → n ≡ length (forms p.curry.items)
    → ((old ++ counted_row tags.FN_PTR n ∷ []) ++ counted_row tags.TEXT (length (string_bytes p.name)) ∷ []) ++ flat_map value_rows (forms p.curry.items) ≡ old ++ value_rows (pointer_form p)
pointer_rows old n p e =
    rw (pointer_form_is p, e, rows_listed (forms p.curry.items), as_listed (forms p.curry.items))
    (append_assoc (old ++ counted_row tags.FN_PTR (length (forms p.curry.items)) ∷ []) (counted_row tags.TEXT (length (string_bytes p.name)) ∷ []) (flat_map value_rows (forms p.curry.items))
    ∙ append_assoc old (counted_row tags.FN_PTR (length (forms p.curry.items)) ∷ []) (counted_row tags.TEXT (length (string_bytes p.name)) ∷ flat_map value_rows (forms p.curry.items)))

pub pointer_texts : (old : List ℕ) (p : FnPtr) → (old ++ string_bytes p.name) ++ flat_map value_texts (forms p.curry.items) ≡ old ++ value_texts (pointer_form p)
pointer_texts old p = rw (pointer_form_is p, texts_listed (forms p.curry.items)) (append_assoc old (string_bytes p.name) (flat_map value_texts (forms p.curry.items)))
