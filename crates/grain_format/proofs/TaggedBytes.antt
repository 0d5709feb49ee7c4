-- What is appended behind a tag.
use Rattle.std.proofs.Common.{◌≡◌, List, [], ◌∷◌, ◌++◌, ℕ, sym, ap, ◌∙◌, append_assoc}
use Rattle.grain_format.specs.Texts.{counted_bytes}
use Rattle.grain_format.specs.Lists.{counted_spelling}
use Rattle.grain_format.specs.Form.{Form, array, fn_ptr, object_map, forms_of, form_entries_of, spelled, entry_spelled}
use Rattle.grain_format.specs.FormLaws.{array_spelled, map_spelled}

pub array_pushed : (old : List ℕ) (xs : List Form) → (old ++ 8 ∷ []) ++ counted_spelling spelled xs ≡ old ++ spelled (array (forms_of xs))
array_pushed old xs = append_assoc old (8 ∷ []) (counted_spelling spelled xs) ∙ ap (λ (b : List ℕ). old ++ 8 ∷ b) (sym (array_spelled xs))

pub map_pushed : (old : List ℕ) (es : List (List ℕ × Form)) → (old ++ 10 ∷ []) ++ counted_spelling entry_spelled es ≡ old ++ spelled (object_map (form_entries_of es))
map_pushed old es = append_assoc old (10 ∷ []) (counted_spelling entry_spelled es) ∙ ap (λ (b : List ℕ). old ++ 10 ∷ b) (sym (map_spelled es))

pub pointer_pushed : (old name : List ℕ) (xs : List Form) → ((old ++ 11 ∷ []) ++ counted_bytes name) ++ counted_spelling spelled xs ≡ old ++ spelled (fn_ptr name (forms_of xs))
pointer_pushed old name xs =
    append_assoc (old ++ 11 ∷ []) (counted_bytes name) (counted_spelling spelled xs) ∙ append_assoc old (11 ∷ []) (counted_bytes name ++ counted_spelling spelled xs)
    ∙ ap (λ (b : List ℕ). old ++ 11 ∷ (counted_bytes name ++ b)) (sym (array_spelled xs))
