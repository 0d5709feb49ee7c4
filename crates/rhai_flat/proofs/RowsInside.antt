-- The rows of a value that holds others.
use Rattle.std.proofs.Common.{◌≡◌, ℕ, List, [], ◌∷◌, ◌++◌, length, refl, ap, ◌∙◌}
use Rattle.std.specs.List.{flat_map}
use Rattle.grain_format.specs.Form.{Form, array, fn_ptr, form_entries_of, forms_of, listed_entries, listed_forms, object_map}
use Rattle.grain_flat_file.specs.Values.{counted_row, entry_rows, entry_texts, rows_of_entries, rows_of_forms, texts_of_entries, texts_of_forms, value_rows, value_texts}
use Rattle.grain_flat_file.specs.declared.records.CValue.{CValue}
use Rattle.grain_flat_file.specs.declared.tags.TheConstants as tags

rows_listed : (xs : List Form) → flat_map value_rows xs ≡ rows_of_forms (forms_of xs)
rows_listed [] = refl
rows_listed (x ∷ xs) = ap (λ (rs : List CValue). value_rows x ++ rs) (rows_listed xs)

pub texts_listed : (xs : List Form) → flat_map value_texts xs ≡ texts_of_forms (forms_of xs)
texts_listed [] = refl
texts_listed (x ∷ xs) = ap (λ (bs : List ℕ). value_texts x ++ bs) (texts_listed xs)

entry_rows_listed : (es : List (List ℕ × Form)) → flat_map entry_rows es ≡ rows_of_entries (form_entries_of es)
entry_rows_listed [] = refl
entry_rows_listed (e ∷ es) = ap (λ (rs : List CValue). entry_rows e ++ rs) (entry_rows_listed es)

pub entry_texts_listed : (es : List (List ℕ × Form)) → flat_map entry_texts es ≡ texts_of_entries (form_entries_of es)
entry_texts_listed [] = refl
entry_texts_listed (e ∷ es) = ap (λ (bs : List ℕ). entry_texts e ++ bs) (entry_texts_listed es)

entries_listed : (es : List (List ℕ × Form)) → es ≡ listed_entries (form_entries_of es)
entries_listed [] = refl
entries_listed (e ∷ es) = ap (λ (fs : List (List ℕ × Form)). (e.0, e.1) ∷ fs) (entries_listed es)

forms_listed : (xs : List Form) → xs ≡ listed_forms (forms_of xs)
forms_listed [] = refl
forms_listed (x ∷ xs) = ap (λ (ys : List Form). x ∷ ys) (forms_listed xs)

pub array_rows : (n : ℕ) (xs : List Form) → n ≡ length xs → counted_row tags.ARRAY n ∷ flat_map value_rows xs ≡ value_rows (array (forms_of xs))
array_rows n xs e = ap (λ (m : ℕ). counted_row tags.ARRAY m ∷ flat_map value_rows xs) e ∙ ap (λ (ys : List Form). counted_row tags.ARRAY (length ys) ∷ flat_map value_rows xs) (forms_listed xs) ∙ ap (λ (rs : List CValue). counted_row tags.ARRAY (length (listed_forms (forms_of xs))) ∷ rs) (rows_listed xs)

pub map_rows : (n : ℕ) (es : List (List ℕ × Form)) → n ≡ length es → counted_row tags.MAP n ∷ flat_map entry_rows es ≡ value_rows (object_map (form_entries_of es))
map_rows n es e = ap (λ (m : ℕ). counted_row tags.MAP m ∷ flat_map entry_rows es) e ∙ ap (λ (fs : List (List ℕ × Form)). counted_row tags.MAP (length fs) ∷ flat_map entry_rows es) (entries_listed es) ∙ ap (λ (rs : List CValue). counted_row tags.MAP (length (listed_entries (form_entries_of es))) ∷ rs) (entry_rows_listed es)

pub pointer_rows : (n : ℕ) (name : List ℕ) (xs : List Form) → n ≡ length xs → counted_row tags.FN_PTR n ∷ counted_row tags.TEXT (length name) ∷ flat_map value_rows xs ≡ value_rows (fn_ptr name (forms_of xs))
pointer_rows n name xs e = ap (λ (m : ℕ). counted_row tags.FN_PTR m ∷ counted_row tags.TEXT (length name) ∷ flat_map value_rows xs) e ∙ ap (λ (ys : List Form). counted_row tags.FN_PTR (length ys) ∷ counted_row tags.TEXT (length name) ∷ flat_map value_rows xs) (forms_listed xs) ∙ ap (λ (rs : List CValue). counted_row tags.FN_PTR (length (listed_forms (forms_of xs))) ∷ counted_row tags.TEXT (length name) ∷ rs) (rows_listed xs)
