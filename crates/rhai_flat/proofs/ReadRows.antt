-- Rows read one after another, and single ones.
use Rattle.std.specs.List.{flat_map}
use Rattle.std.proofs.Common.{◌≡◌, ℕ, ◌+◌, ℤ, pos, true, false, List, [], ◌∷◌, ◌++◌, length, refl, sym, ap, ◌∙◌, append_assoc, length-append, arith}
use Rattle.std.proofs.lemmas.List.{append-nil, flat_map_more}
use Rattle.grain_format.specs.Form.{Form}
use Rattle.grain_flat_file.specs.Values.{has_bytes, placed_rows, value_row, value_rows, value_texts}
use Rattle.grain_flat_file.specs.declared.records.CValue.{CValue}
use Rattle.rhai_flat.specs.declared.reader.Reader.{Reader}
use Rattle.rhai_flat.specs.Rows.{AreFormsRead, AreOfRun, AreRead, AreRowsOf, IsRowTaken, bytes_of_rows, is_of_run, settled_rows}
use Rattle.rhai_flat.proofs.PlacedRows.{at_false, bytes_append, of_run_placed, placed_before}
use Rattle.rhai_flat.proofs.Settled.{of_run_unsettled, settled_none}

of_run_append : (a b : List CValue) → AreOfRun a → AreOfRun b → AreOfRun (a ++ b)
of_run_append [] b p q = q
of_run_append (r ∷ a) b p q = (p.0, of_run_append a b p.1 q)

pub read_after : (a b c : Reader) (rs ss : List CValue) (ts us : List ℕ) → AreRead a b rs ts → AreRead b c ss us → AreRead a c (rs ++ ss) (ts ++ us)
read_after a b c rs ss ts us p q =
    let behind : b.from ≡ a.from + bytes_of_rows rs = p.from_is ∙ ap (λ (n : ℕ). a.from + n) (sym p.bytes_fit) in
    let e = bytes_append rs ss in
    let f = length-append ts us in
    let g = p.bytes_fit in
    let h = q.bytes_fit in
    let i = p.from_is in
    let j = q.from_is in
    record {
      rows_are = p.rows_are ∙ ap (λ (ys : List CValue). placed_rows a.from rs ++ ys) q.rows_are ∙ placed_before (settled_rows c.rows.now) a.from b.from rs ss behind;
      bytes_are = p.bytes_are ∙ ap (λ (ys : List ℕ). ts ++ ys) q.bytes_are ∙ sym (append_assoc ts us c.texts.now);
      from_is = omega arith;
      bytes_fit = omega arith;
      of_run = of_run_append rs ss p.of_run q.of_run;
    }

pub read_as : (a b : Reader) (rs ss : List CValue) (ts us : List ℕ) → rs ≡ ss → ts ≡ us → AreRead a b rs ts → AreRead a b ss us
read_as a b rs ss ts us e f p = record {
  rows_are = p.rows_are ∙ ap (λ (ys : List CValue). placed_rows a.from ys ++ settled_rows b.rows.now) e;
  bytes_are = p.bytes_are ∙ ap (λ (ys : List ℕ). ys ++ b.texts.now) f;
  from_is = p.from_is ∙ ap (λ (ys : List ℕ). a.from + length ys) f;
  bytes_fit = ap bytes_of_rows (sym e) ∙ p.bytes_fit ∙ ap (λ (ys : List ℕ). length ys) f;
  of_run = rw (← e) p.of_run;
}

pub none_read : (a : Reader) → AreRead a a [] []
none_read a = record { rows_are = refl; bytes_are = refl; from_is = omega arith; bytes_fit = refl; of_run = tt }

pub row_is : (r : CValue) (tag n : ℕ) (z : ℤ) → r.tag ≡ tag → r.count ≡ n → r.number ≡ z → r ≡ value_row tag n z
row_is r tag n z e f g = ap (λ (t : ℕ). value_row t r.count r.number) e ∙ ap (λ (m : ℕ). value_row tag m r.number) f ∙ ap (λ (y : ℤ). value_row tag n y) g

pub plain_read : (a b : Reader) (r : CValue) (tag n : ℕ) (z : ℤ) → has_bytes tag ≡ false → is_of_run tag ≡ true → r ≡ value_row tag n z → IsRowTaken a r b → AreRead a b (value_row tag n z ∷ []) []
plain_read a b r tag n z plain of_run is taken =
    let none = at_false (has_bytes tag) n 0 plain in
    let f = taken.from_is in
    record {
      rows_are = taken.row_is ∙ ap (λ (s : CValue). s ∷ settled_rows b.rows.now) (is ∙ sym (at_false (has_bytes tag) (value_row tag n (pos a.from)) (value_row tag n z) plain));
      bytes_are = sym taken.bytes_are;
      from_is = omega arith;
      bytes_fit = omega arith;
      of_run = (of_run, tt);
    }

-- ---- one after another, as a loop does

module _ {V : Type 0} (rows_of : V → List CValue) (texts_of : V → List ℕ) where
  pub read_more : (start here next : Reader) (front all : List V) (x : V) → all ≡ front ++ x ∷ [] → AreRead start here (flat_map rows_of front) (flat_map texts_of front) → AreRead here next (rows_of x) (texts_of x) → AreRead start next (flat_map rows_of all) (flat_map texts_of all)
  read_more start here next front all x is before one =
      read_as start next (flat_map rows_of front ++ rows_of x) (flat_map rows_of all) (flat_map texts_of front ++ texts_of x) (flat_map texts_of all)
      (flat_map_more rows_of [] front x ∙ ap (λ (ys : List V). flat_map rows_of ys) (sym is)) (flat_map_more texts_of [] front x ∙ ap (λ (ys : List V). flat_map texts_of ys) (sym is))
      (read_after start here next (flat_map rows_of front) (rows_of x) (flat_map texts_of front) (texts_of x) before one)

-- ---- all of them

no_bytes : (ts : List ℕ) → length ts ≡ 0 → ts ≡ []
no_bytes [] e = refl
no_bytes (t ∷ ts) e = absurd (omega arith)

all_rows : (a b : Reader) (rs : List CValue) (ts : List ℕ) → AreRead a b rs ts → length b.rows.now ≡ 0 → settled_rows a.rows.now ≡ placed_rows a.from rs
all_rows a b rs ts p e = p.rows_are ∙ ap (λ (ys : List CValue). placed_rows a.from rs ++ ys) (settled_none b.rows.now e) ∙ append-nil (placed_rows a.from rs)

-- from the first row and byte on they are those of these values
pub read_all : (a b : Reader) (xs : List Form) → AreFormsRead a b xs → a.from ≡ 0 → length b.rows.now ≡ 0 → length b.texts.now ≡ 0 → AreRowsOf (settled_rows a.rows.now) a.texts.now xs
read_all a b xs p first rows texts =
    let rs = flat_map value_rows xs in
    let ts = flat_map value_texts xs in
    record {
      rows_are = all_rows a b rs ts p rows ∙ ap (λ (n : ℕ). placed_rows n rs) first;
      bytes_are = p.bytes_are ∙ ap (λ (ys : List ℕ). ts ++ ys) (no_bytes b.texts.now texts) ∙ append-nil ts;
    }

pub all_of_run : (a b : Reader) (rs : List CValue) (ts : List ℕ) → AreRead a b rs ts → length b.rows.now ≡ 0 → AreOfRun a.rows.now
all_of_run a b rs ts p e =
    of_run_unsettled a.rows.now (rw (all_rows a b rs ts p e) (of_run_placed a.from rs p.of_run))
