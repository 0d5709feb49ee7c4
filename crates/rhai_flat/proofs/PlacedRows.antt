-- Where the bytes of rows begin, if others come before them.
use Rattle.std.proofs.Common.{◌≡◌, ℕ, ◌+◌, pos, Bool, true, false, cond, List, [], ◌∷◌, ◌++◌, refl, sym, ap, ◌∙◌, append_assoc, arith}
use Rattle.std.proofs.lemmas.Bool.{false≢true}
use Rattle.grain_flat_file.specs.Values.{has_bytes, placed_row, placed_rows, row_bytes}
use Rattle.grain_flat_file.specs.declared.records.CValue.{CValue}
use Rattle.rhai_flat.specs.Rows.{AreOfRun, bytes_of_rows, is_of_run}

placed_append : (from : ℕ) (a b : List CValue) → placed_rows from (a ++ b) ≡ placed_rows from a ++ placed_rows (from + bytes_of_rows a) b
placed_append from [] b = ap (λ (n : ℕ). placed_rows n b) (omega arith)
placed_append from (r ∷ rs) b =
    let e : from + row_bytes r + bytes_of_rows rs ≡ from + (row_bytes r + bytes_of_rows rs) = omega arith in
    ap (λ (ys : List CValue). placed_row from r ∷ ys) (placed_append (from + row_bytes r) rs b ∙ ap (λ (n : ℕ). placed_rows (from + row_bytes r) rs ++ placed_rows n b) e)

pub bytes_append : (a b : List CValue) → bytes_of_rows (a ++ b) ≡ bytes_of_rows a + bytes_of_rows b
bytes_append [] b = omega arith
bytes_append (r ∷ rs) b = let e = bytes_append rs b in omega arith

pub placed_behind : (rows : List CValue) (from behind : ℕ) (a b : List CValue) → behind ≡ from + bytes_of_rows a → (rows ++ placed_rows from a) ++ placed_rows behind b ≡ rows ++ placed_rows from (a ++ b)
placed_behind rows from behind a b e =
    ap (λ (n : ℕ). (rows ++ placed_rows from a) ++ placed_rows n b) e ∙ append_assoc rows (placed_rows from a) (placed_rows (from + bytes_of_rows a) b) ∙ ap (λ (ys : List CValue). rows ++ ys) (sym (placed_append from a b))

pub placed_before : (rows : List CValue) (from behind : ℕ) (a b : List CValue) → behind ≡ from + bytes_of_rows a → placed_rows from a ++ (placed_rows behind b ++ rows) ≡ placed_rows from (a ++ b) ++ rows
placed_before rows from behind a b e =
    sym (append_assoc (placed_rows from a) (placed_rows behind b) rows) ∙ ap (λ (n : ℕ). (placed_rows from a ++ placed_rows n b) ++ rows) e ∙ ap (λ (ys : List CValue). ys ++ rows) (sym (placed_append from a b))

pub at_false : {A : Type 0} (b : Bool) (x y : A) → b ≡ false → cond b x y ≡ y
at_false false x y e = refl
at_false true x y e = absurd (false≢true (sym e))

pub at_true : {A : Type 0} (b : Bool) (x y : A) → b ≡ true → cond b x y ≡ x
at_true true x y e = refl
at_true false x y e = absurd (false≢true e)

tag_stays : (b : Bool) (from : ℕ) (r : CValue) → has_bytes r.tag ≡ b → (placed_row from r).tag ≡ r.tag
tag_stays true from r e = ap (λ (s : CValue). s.tag) (at_true (has_bytes r.tag) (record r { number = pos from }) r e)
tag_stays false from r e = ap (λ (s : CValue). s.tag) (at_false (has_bytes r.tag) (record r { number = pos from }) r e)

pub of_run_before : (from : ℕ) (rs : List CValue) → AreOfRun (placed_rows from rs) → AreOfRun rs
of_run_before from [] p = tt
of_run_before from (r ∷ rs) p =
    let same = tag_stays (has_bytes r.tag) from r refl in
    (ap is_of_run (sym same) ∙ p.0, of_run_before (from + row_bytes r) rs p.1)

pub of_run_placed : (from : ℕ) (rs : List CValue) → AreOfRun rs → AreOfRun (placed_rows from rs)
of_run_placed from [] p = tt
of_run_placed from (r ∷ rs) p =
    let same = tag_stays (has_bytes r.tag) from r refl in
    (ap is_of_run same ∙ p.0, of_run_placed (from + row_bytes r) rs p.1)
