-- Rows and bytes that are the same are of the same forms.
use Rattle.std.proofs.Common.{◌≡◌, ℕ, suc, ◌+◌, ◌<◌, pos, true, false, Bool, cond, List, [], ◌∷◌, ◌++◌, length, map, Option, Some, subst, refl, sym, ap, ◌∙◌, length-append, arith}
use Rattle.std.proofs.lemmas.List.{map-append}
use Rattle.std.specs.List.{flat_map}
use Rattle.std.specs.Prelude.{unwrap_or}
use Rattle.grain_format.specs.Form.{Form, Forms, Entries, unit, boolean, integer, character, text, range, range_inclusive, array, blob, object_map, fn_ptr, shared, host, float, no_forms, form_then, no_entries, entry_then, listed_forms, listed_entries}
use Rattle.grain_flat_file.specs.Values.{counted_row, has_bytes, placed_row, placed_rows, row_bytes, rows_of_entries, rows_of_forms, value_rows, value_texts}
use Rattle.grain_flat_file.specs.declared.records.CValue.{CValue}
use Rattle.grain_flat_file.specs.declared.tags.TheConstants as tags
use Rattle.rhai_flat.specs.Rows.{AreOfRun, RowsTellForms}
use Rattle.rhai_flat.proofs.FormsBack.{form_at, form_back, of_run_left, of_run_right}
use Rattle.rhai_flat.proofs.PlacedRows.{at_false, at_true, of_run_before}

some_rows : (x : Form) → 0 < length (value_rows x)
some_rows unit = omega arith
some_rows (boolean false) = omega arith
some_rows (boolean true) = omega arith
some_rows (integer z) = omega arith
some_rows (character c) = omega arith
some_rows (text t) = omega arith
some_rows (range a b) = omega arith
some_rows (range_inclusive a b) = omega arith
some_rows (array xs) = omega arith
some_rows (blob b) = omega arith
some_rows (object_map es) = omega arith
some_rows (fn_ptr name xs) = omega arith
some_rows (shared x) = omega arith
some_rows (host t i) = omega arith
some_rows (float b) = omega arith

same_inside : {A : Type 0} (a b : A) → Some a ≡ Some b → a ≡ b
same_inside a b e = ap (λ (o : Option _). unwrap_or o a) e

front_same : (x y : Form) (rs ss : List CValue) (ts us : List ℕ) → AreOfRun (value_rows x) → AreOfRun (value_rows y) → value_rows x ++ rs ≡ value_rows y ++ ss → value_texts x ++ ts ≡ value_texts y ++ us → (x ≡ y) × (rs ≡ ss) × (ts ≡ us)
front_same x y rs ss ts us p q e f =
    let n = length (value_rows x) + length (value_rows y) in
    let parts = same_inside (x, rs, ts) (y, ss, us)
    (sym (form_back x n rs ts (omega arith) p) ∙ ap (λ (vs : List CValue). form_at (suc n) vs (value_texts x ++ ts)) e ∙ ap (λ (vs : List ℕ). form_at (suc n) (value_rows y ++ ss) vs) f ∙ form_back y n ss us (omega arith) q) in
    (ap (λ (r : Form × List CValue × List ℕ). r.0) parts, ap (λ (r : Form × List CValue × List ℕ). r.1) parts, ap (λ (r : Form × List CValue × List ℕ). r.2) parts)

no_more : (x : Form) (xs : List Form) → [] ≡ flat_map value_rows (x ∷ xs) → ⊥
no_more x xs e =
    let one = some_rows x in
    let all = length-append (value_rows x) (flat_map value_rows xs) in
    let none : 0 ≡ length (value_rows x ++ flat_map value_rows xs) = ap (λ (rs : List CValue). length rs) e in
    omega arith

all_same : (xs ys : List Form) → AreOfRun (flat_map value_rows xs) → flat_map value_rows xs ≡ flat_map value_rows ys → flat_map value_texts xs ≡ flat_map value_texts ys → xs ≡ ys
all_same [] [] p e f = refl
all_same [] (y ∷ ys) p e f = absurd (no_more y ys e)
all_same (x ∷ xs) [] p e f = absurd (no_more x xs (sym e))
all_same (x ∷ xs) (y ∷ ys) p e f =
    let q : AreOfRun (value_rows y ++ flat_map value_rows ys) = subst AreOfRun e p in
    let parts = front_same x y (flat_map value_rows xs) (flat_map value_rows ys) (flat_map value_texts xs) (flat_map value_texts ys) (of_run_left (value_rows x) (flat_map value_rows xs) p) (of_run_left (value_rows y) (flat_map value_rows ys) q) e f in
    ap (λ (z : Form). z ∷ xs) parts.0 ∙ ap (λ (zs : List Form). y ∷ zs) (all_same xs ys (of_run_right (value_rows x) (flat_map value_rows xs) p) parts.1 parts.2)

-- ---- a row apart from where its bytes begin

abbrev bare : CValue → CValue
bare r = cond (has_bytes r.tag) (counted_row r.tag r.count) r

bare_moved : (b : Bool) (from : ℕ) (r : CValue) → has_bytes r.tag ≡ b → bare (placed_row from r) ≡ bare r
bare_moved true from r e =
    ap bare (at_true (has_bytes r.tag) (record r { number = pos from }) r e) ∙ at_true (has_bytes r.tag) (counted_row r.tag r.count) (record r { number = pos from }) e ∙ sym (at_true (has_bytes r.tag) (counted_row r.tag r.count) r e)
bare_moved false from r e = ap bare (at_false (has_bytes r.tag) (record r { number = pos from }) r e)

bare_placed : (from : ℕ) (rs : List CValue) → map bare (placed_rows from rs) ≡ map bare rs
bare_placed from [] = refl
bare_placed from (r ∷ rs) =
    ap (λ (s : CValue). s ∷ map bare (placed_rows (from + row_bytes r) rs)) (bare_moved (has_bytes r.tag) from r refl) ∙ ap (λ (ss : List CValue). bare r ∷ ss) (bare_placed (from + row_bytes r) rs)

bare_both : (a b : List CValue) → map bare a ≡ a → map bare b ≡ b → map bare (a ++ b) ≡ a ++ b
bare_both a b e f = map-append bare a b ∙ ap (λ (rs : List CValue). rs ++ map bare b) e ∙ ap (λ (rs : List CValue). a ++ rs) f

mutual
  bare_rows : (x : Form) → map bare (value_rows x) ≡ value_rows x
  bare_rows unit = refl
  bare_rows (boolean false) = refl
  bare_rows (boolean true) = refl
  bare_rows (integer z) = refl
  bare_rows (character c) = refl
  bare_rows (text t) = refl
  bare_rows (range a b) = refl
  bare_rows (range_inclusive a b) = refl
  bare_rows (array xs) = ap (λ (rs : List CValue). counted_row tags.ARRAY (length (listed_forms xs)) ∷ rs) (bare_forms xs)
  bare_rows (blob b) = refl
  bare_rows (object_map es) = ap (λ (rs : List CValue). counted_row tags.MAP (length (listed_entries es)) ∷ rs) (bare_entries es)
  bare_rows (fn_ptr name xs) = ap (λ (rs : List CValue). counted_row tags.FN_PTR (length (listed_forms xs)) ∷ counted_row tags.TEXT (length name) ∷ rs) (bare_forms xs)
  bare_rows (shared x) = ap (λ (rs : List CValue). counted_row tags.SHARED 0 ∷ rs) (bare_rows x)
  bare_rows (host t i) = refl
  bare_rows (float b) = refl

  bare_forms : (xs : Forms) → map bare (rows_of_forms xs) ≡ rows_of_forms xs
  bare_forms no_forms = refl
  bare_forms (form_then x xs) = bare_both (value_rows x) (rows_of_forms xs) (bare_rows x) (bare_forms xs)

  bare_entries : (es : Entries) → map bare (rows_of_entries es) ≡ rows_of_entries es
  bare_entries no_entries = refl
  bare_entries (entry_then key x es) = ap (λ (rs : List CValue). counted_row tags.TEXT (length key) ∷ rs) (bare_both (value_rows x) (rows_of_entries es) (bare_rows x) (bare_entries es))

bare_all : (xs : List Form) → map bare (flat_map value_rows xs) ≡ flat_map value_rows xs
bare_all [] = refl
bare_all (x ∷ xs) = bare_both (value_rows x) (flat_map value_rows xs) (bare_rows x) (bare_all xs)

pub forms_told : RowsTellForms
forms_told rows bytes xs ys p a b =
    let rs = flat_map value_rows xs in
    let ss = flat_map value_rows ys in
    let same : placed_rows 0 rs ≡ placed_rows 0 ss = sym a.rows_are ∙ b.rows_are in
    all_same xs ys (of_run_before 0 rs (subst AreOfRun a.rows_are p)) (sym (bare_all xs) ∙ sym (bare_placed 0 rs) ∙ ap (λ (us : List CValue). map bare us) same ∙ bare_placed 0 ss ∙ bare_all ys) (sym a.bytes_are ∙ b.bytes_are)
