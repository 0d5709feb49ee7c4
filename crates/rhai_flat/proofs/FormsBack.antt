-- The rows and bytes of a value tell its form.
use Rattle.std.proofs.Common.{◌≡◌, ℕ, suc, zero, ◌≤◌, ℤ, pos, eqb, true, false, cond, List, [], ◌∷◌, ◌++◌, length, take, drop, Option, None, Some, refl, ap, ◌∙◌, append_assoc, length-append, arith}
use Rattle.std.proofs.lemmas.List.{drop_at, take_at}
use Rattle.std.specs.Int.RustNames.{unsigned_abs}
use Rattle.std.specs.Int.{w64, cast_unsigned}
use Rattle.grain_format.specs.Form.{Form, Forms, Entries, unit, boolean, integer, character, text, range, range_inclusive, array, blob, object_map, fn_ptr, shared, host, float, no_forms, form_then, no_entries, entry_then, listed_forms, listed_entries}
use Rattle.grain_flat_file.specs.Values.{counted_row, float_number, rows_of_entries, rows_of_forms, texts_of_entries, texts_of_forms, value_row, value_rows, value_texts}
use Rattle.grain_flat_file.specs.declared.records.CValue.{CValue}
use Rattle.grain_flat_file.specs.declared.tags.TheConstants as tags
use Rattle.grain_flat_file.proofs.FloatNumbers.{bits_back}
use Rattle.rhai_flat.specs.Rows.{AreOfRun}

-- what rows and bytes begin with, and what is left of them
abbrev pub Found : Type 0 → Type 0
Found A = Option (A × List CValue × List ℕ)

abbrev found : {A B : Type 0} → Found A → (A → List CValue → List ℕ → Found B) → Found B
found None f = None
found (Some r) f = f r.0 r.1 r.2

abbrev name_at : List CValue → List ℕ → Found (List ℕ)
name_at [] ts = None
name_at (r ∷ rs) ts = Some (take r.count ts, rs, drop r.count ts)

abbrev integer_at : List CValue → List ℕ → Found ℤ
integer_at [] ts = None
integer_at (r ∷ rs) ts = Some (r.number, rs, ts)

abbrev bounds_at : (ℤ → ℤ → Form) → List CValue → List ℕ → Found Form
bounds_at f rs ts = found (integer_at rs ts) (λ a rs' ts'. found (integer_at rs' ts') (λ b rs'' ts''. Some (f a b, rs'', ts'')))

module _ (one : List CValue → List ℕ → Found Form) where
  abbrev forms_at : ℕ → List CValue → List ℕ → Found Forms
  forms_at zero rs ts = Some (no_forms, rs, ts)
  forms_at (suc k) rs ts = found (one rs ts) (λ x rs' ts'. found (forms_at k rs' ts') (λ xs rs'' ts''. Some (form_then x xs, rs'', ts'')))

  abbrev named_at : ℕ → List CValue → List ℕ → Found Entries
  named_at zero rs ts = Some (no_entries, rs, ts)
  named_at (suc k) rs ts = found (name_at rs ts) (λ key rs' ts'. found (one rs' ts') (λ x rs'' ts''. found (named_at k rs'' ts'') (λ es rest left. Some (entry_then key x es, rest, left))))

  abbrev behind : CValue → List CValue → List ℕ → Found Form
  behind r rs ts =
      cond (eqb r.tag tags.UNIT) (Some (unit, rs, ts))
      (cond (eqb r.tag tags.FALSE) (Some (boolean false, rs, ts))
      (cond (eqb r.tag tags.TRUE) (Some (boolean true, rs, ts))
      (cond (eqb r.tag tags.INTEGER) (Some (integer r.number, rs, ts))
      (cond (eqb r.tag tags.CHARACTER) (Some (character (unsigned_abs r.number), rs, ts))
      (cond (eqb r.tag tags.TEXT) (Some (text (take r.count ts), rs, drop r.count ts))
      (cond (eqb r.tag tags.BLOB) (Some (blob (take r.count ts), rs, drop r.count ts))
      (cond (eqb r.tag tags.RANGE) (bounds_at range rs ts)
      (cond (eqb r.tag tags.RANGE_INCLUSIVE) (bounds_at range_inclusive rs ts)
      (cond (eqb r.tag tags.ARRAY) (found (forms_at r.count rs ts) (λ xs rest left. Some (array xs, rest, left)))
      (cond (eqb r.tag tags.MAP) (found (named_at r.count rs ts) (λ es rest left. Some (object_map es, rest, left)))
      (cond (eqb r.tag tags.FN_PTR) (found (name_at rs ts) (λ name rs' ts'. found (forms_at r.count rs' ts') (λ xs rest left. Some (fn_ptr name xs, rest, left))))
      (cond (eqb r.tag tags.SHARED) (found (one rs ts) (λ x rest left. Some (shared x, rest, left)))
      (cond (eqb r.tag tags.FLOAT) (Some (float (cast_unsigned w64 r.number), rs, ts)) None)))))))))))))

-- in which values are nested less deep than that
pub form_at : ℕ → List CValue → List ℕ → Found Form
form_at zero rs ts = None
form_at (suc n) [] ts = None
form_at (suc n) (r ∷ rs) ts = behind (form_at n) r rs ts

form_at-row : (n : ℕ) (r : CValue) (rs : List CValue) (ts : List ℕ) → form_at (suc n) (r ∷ rs) ts ≡ behind (form_at n) r rs ts
unfolding form_at
form_at-row n r rs ts = refl

name_back : (key : List ℕ) (rs : List CValue) (ts : List ℕ) → name_at (counted_row tags.TEXT (length key) ∷ rs) (key ++ ts) ≡ Some (key, rs, ts)
name_back key rs ts = ap (λ (k : List ℕ). Some (k, rs, drop (length key) (key ++ ts))) (take_at key ts (length key) refl) ∙ ap (λ (left : List ℕ). Some (key, rs, left)) (drop_at key ts (length key) refl)

pub of_run_left : (a b : List CValue) → AreOfRun (a ++ b) → AreOfRun a
of_run_left [] b p = tt
of_run_left (r ∷ a) b p = (p.0, of_run_left a b p.1)

pub of_run_right : (a b : List CValue) → AreOfRun (a ++ b) → AreOfRun b
of_run_right [] b p = p
of_run_right (r ∷ a) b p = of_run_right a b p.1

mutual
  pub form_back : (x : Form) (n : ℕ) (rs : List CValue) (ts : List ℕ) → length (value_rows x) ≤ n → AreOfRun (value_rows x) → form_at (suc n) (value_rows x ++ rs) (value_texts x ++ ts) ≡ Some (x, rs, ts)
  form_back unit n rs ts le p = form_at-row n (counted_row tags.UNIT 0) rs ts
  form_back (boolean false) n rs ts le p = form_at-row n (counted_row tags.FALSE 0) rs ts
  form_back (boolean true) n rs ts le p = form_at-row n (counted_row tags.TRUE 0) rs ts
  form_back (integer z) n rs ts le p = form_at-row n (value_row tags.INTEGER 0 z) rs ts
  form_back (character c) n rs ts le p = form_at-row n (value_row tags.CHARACTER 0 (pos c)) rs ts
  form_back (text t) n rs ts le p =
      form_at-row n (counted_row tags.TEXT (length t)) rs (t ++ ts) ∙ ap (λ (f : Found (List ℕ)). found f (λ u rest left. Some (text u, rest, left))) (name_back t rs ts)
  form_back (blob b) n rs ts le p =
      form_at-row n (counted_row tags.BLOB (length b)) rs (b ++ ts) ∙ ap (λ (f : Found (List ℕ)). found f (λ u rest left. Some (blob u, rest, left))) (name_back b rs ts)
  form_back (range a b) n rs ts le p = form_at-row n (counted_row tags.RANGE 0) (value_row tags.INTEGER 0 a ∷ value_row tags.INTEGER 0 b ∷ rs) ts
  form_back (range_inclusive a b) n rs ts le p = form_at-row n (counted_row tags.RANGE_INCLUSIVE 0) (value_row tags.INTEGER 0 a ∷ value_row tags.INTEGER 0 b ∷ rs) ts
  form_back (array xs) zero rs ts le p = absurd (omega arith)
  form_back (array xs) (suc n) rs ts le p =
      form_at-row (suc n) (counted_row tags.ARRAY (length (listed_forms xs))) (rows_of_forms xs ++ rs) (texts_of_forms xs ++ ts)
      ∙ ap (λ (f : Found Forms). found f (λ ys rest left. Some (array ys, rest, left))) (forms_back xs n rs ts (omega arith) p.1)
  form_back (object_map es) zero rs ts le p = absurd (omega arith)
  form_back (object_map es) (suc n) rs ts le p =
      form_at-row (suc n) (counted_row tags.MAP (length (listed_entries es))) (rows_of_entries es ++ rs) (texts_of_entries es ++ ts)
      ∙ ap (λ (f : Found Entries). found f (λ fs rest left. Some (object_map fs, rest, left))) (entries_back es n rs ts (omega arith) p.1)
  form_back (fn_ptr name xs) zero rs ts le p = absurd (omega arith)
  form_back (fn_ptr name xs) (suc n) rs ts le p =
      let k = length (listed_forms xs) in
      ap (λ (us : List ℕ). form_at (suc (suc n)) (value_rows (fn_ptr name xs) ++ rs) us) (append_assoc name (texts_of_forms xs) ts)
      ∙ form_at-row (suc n) (counted_row tags.FN_PTR k) (counted_row tags.TEXT (length name) ∷ (rows_of_forms xs ++ rs)) (name ++ (texts_of_forms xs ++ ts))
      ∙ ap (λ (f : Found (List ℕ)). found f (λ name' rs' ts'. found (forms_at (form_at (suc n)) k rs' ts') (λ ys rest left. Some (fn_ptr name' ys, rest, left)))) (name_back name (rows_of_forms xs ++ rs) (texts_of_forms xs ++ ts))
      ∙ ap (λ (f : Found Forms). found f (λ ys rest left. Some (fn_ptr name ys, rest, left))) (forms_back xs n rs ts (omega arith) p.1.1)
  form_back (shared x) zero rs ts le p = absurd (omega arith)
  form_back (shared x) (suc n) rs ts le p =
      form_at-row (suc n) (counted_row tags.SHARED 0) (value_rows x ++ rs) (value_texts x ++ ts)
      ∙ ap (λ (f : Found Form). found f (λ y rest left. Some (shared y, rest, left))) (form_back x n rs ts (omega arith) p.1)
  form_back (host t i) n rs ts le p = absurd (let none : false ≡ true = p.0 in cc)
  form_back (float b) n rs ts le p = form_at-row n (value_row tags.FLOAT 0 (float_number b)) rs ts ∙ ap (λ (m : ℕ). Some (float m, rs, ts)) (bits_back b)

  forms_back : (xs : Forms) (n : ℕ) (rs : List CValue) (ts : List ℕ) → length (rows_of_forms xs) ≤ n → AreOfRun (rows_of_forms xs) → forms_at (form_at (suc n)) (length (listed_forms xs)) (rows_of_forms xs ++ rs) (texts_of_forms xs ++ ts) ≡ Some (xs, rs, ts)
  forms_back no_forms n rs ts le p = refl
  forms_back (form_then x xs) n rs ts le p =
      let long = length-append (value_rows x) (rows_of_forms xs) in
      let k = length (listed_forms xs) in
      let rest = rows_of_forms xs ++ rs in
      let left = texts_of_forms xs ++ ts in
      ap (λ (us : List CValue). forms_at (form_at (suc n)) (suc k) us ((value_texts x ++ texts_of_forms xs) ++ ts)) (append_assoc (value_rows x) (rows_of_forms xs) rs)
      ∙ ap (λ (us : List ℕ). forms_at (form_at (suc n)) (suc k) (value_rows x ++ rest) us) (append_assoc (value_texts x) (texts_of_forms xs) ts)
      ∙ ap (λ (f : Found Form). found f (λ y rs' ts'. found (forms_at (form_at (suc n)) k rs' ts') (λ ys rs'' ts''. Some (form_then y ys, rs'', ts'')))) (form_back x n rest left (omega arith) (of_run_left (value_rows x) (rows_of_forms xs) p))
      ∙ ap (λ (f : Found Forms). found f (λ ys rs'' ts''. Some (form_then x ys, rs'', ts''))) (forms_back xs n rs ts (omega arith) (of_run_right (value_rows x) (rows_of_forms xs) p))

  entries_back : (es : Entries) (n : ℕ) (rs : List CValue) (ts : List ℕ) → length (rows_of_entries es) ≤ n → AreOfRun (rows_of_entries es) → named_at (form_at (suc n)) (length (listed_entries es)) (rows_of_entries es ++ rs) (texts_of_entries es ++ ts) ≡ Some (es, rs, ts)
  entries_back no_entries n rs ts le p = refl
  entries_back (entry_then key x es) n rs ts le p =
      let long = length-append (value_rows x) (rows_of_entries es) in
      let k = length (listed_entries es) in
      let rest = rows_of_entries es ++ rs in
      let left = texts_of_entries es ++ ts in
      ap (λ (us : List CValue). named_at (form_at (suc n)) (suc k) (counted_row tags.TEXT (length key) ∷ us) (((key ++ value_texts x) ++ texts_of_entries es) ++ ts)) (append_assoc (value_rows x) (rows_of_entries es) rs)
      ∙ ap (λ (us : List ℕ). named_at (form_at (suc n)) (suc k) (counted_row tags.TEXT (length key) ∷ (value_rows x ++ rest)) us)
      (append_assoc (key ++ value_texts x) (texts_of_entries es) ts ∙ append_assoc key (value_texts x) left)
      ∙ ap (λ (f : Found (List ℕ)). found f (λ key' rs' ts'. found (form_at (suc n) rs' ts') (λ y rs'' ts''. found (named_at (form_at (suc n)) k rs'' ts'') (λ fs rest' left'. Some (entry_then key' y fs, rest', left'))))) (name_back key (value_rows x ++ rest) (value_texts x ++ left))
      ∙ ap (λ (f : Found Form). found f (λ y rs'' ts''. found (named_at (form_at (suc n)) k rs'' ts'') (λ fs rest' left'. Some (entry_then key y fs, rest', left')))) (form_back x n rest left (omega arith) (of_run_left (value_rows x) (rows_of_entries es) p.1))
      ∙ ap (λ (f : Found Entries). found f (λ fs rest' left'. Some (entry_then key x fs, rest', left'))) (entries_back es n rs ts (omega arith) (of_run_right (value_rows x) (rows_of_entries es) p.1))
