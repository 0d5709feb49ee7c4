-- Rows appended after others, and single ones.
use Rattle.std.specs.List.{flat_map}
use Rattle.std.specs.declared.alloc.Global.{Global}
use Rattle.std.specs.Prelude.{Vec}
use Rattle.std.proofs.lemmas.List.{append-nil}
use Rattle.std.proofs.Common.{◌≡◌, ℕ, ◌+◌, ◌<◌, suc, get_or, drop, drop-cons, add-one, map, ℤ, pos, true, false, List, [], ◌∷◌, ◌++◌, length, refl, sym, ap, ◌∙◌, append_assoc, length-append, arith}
use Rattle.grain_flat_file.specs.Values.{counted_row, has_bytes, placed_rows, value_row}
use Rattle.grain_flat_file.specs.declared.records.CValue.{CValue}
use Rattle.rhai_flat.specs.Rows.{IsAppended, bytes_of_rows}
use Rattle.rhai_flat.specs.declared.writing.FlatValues.{FlatValues}
use Rattle.rhai_flat.proofs.PlacedRows.{at_false, at_true, bytes_append, placed_behind}

pub appended_after : (a b c : FlatValues) (rs ss : List CValue) (ts us : List ℕ) → IsAppended a b rs ts → IsAppended b c ss us → IsAppended a c (rs ++ ss) (ts ++ us)
appended_after a b c rs ss ts us p q =
    let behind : length b.texts.items ≡ length a.texts.items + bytes_of_rows rs =
    ap (λ (bs : List ℕ). length bs) p.bytes_are ∙ length-append a.texts.items ts ∙ ap (λ (n : ℕ). length a.texts.items + n) (sym p.bytes_fit) in
    let e = bytes_append rs ss in
    let f = length-append ts us in
    let g = p.bytes_fit in
    let h = q.bytes_fit in
    record {
      rows_are = q.rows_are ∙ ap (λ (ys : List CValue). ys ++ placed_rows (length b.texts.items) ss) p.rows_are ∙ placed_behind a.rows.items (length a.texts.items) (length b.texts.items) rs ss behind;
      bytes_are = q.bytes_are ∙ ap (λ (ys : List ℕ). ys ++ us) p.bytes_are ∙ append_assoc a.texts.items ts us;
      bytes_fit = omega arith;
    }

pub appended_as : (a b : FlatValues) (rs ss : List CValue) (ts us : List ℕ) → rs ≡ ss → ts ≡ us → IsAppended a b rs ts → IsAppended a b ss us
appended_as a b rs ss ts us e f p = record {
  rows_are = p.rows_are ∙ ap (λ (ys : List CValue). a.rows.items ++ placed_rows (length a.texts.items) ys) e;
  bytes_are = p.bytes_are ∙ ap (λ (ys : List ℕ). a.texts.items ++ ys) f;
  bytes_fit = ap bytes_of_rows (sym e) ∙ p.bytes_fit ∙ ap (λ (ys : List ℕ). length ys) f;
}

pub row_appended : (a b : FlatValues) (tag n : ℕ) (z : ℤ) → has_bytes tag ≡ false → b.rows.items ≡ a.rows.items ++ value_row tag n z ∷ [] → b.texts ≡ a.texts → IsAppended a b (value_row tag n z ∷ []) []
row_appended a b tag n z plain e f =
    let none = at_false (has_bytes tag) n 0 plain in
    record {
      rows_are = e ∙ ap (λ (r : CValue). a.rows.items ++ r ∷ []) (sym (at_false (has_bytes tag) (value_row tag n (pos (length a.texts.items))) (value_row tag n z) plain));
      bytes_are = ap (λ (v : Vec ℕ Global). v.items) f ∙ sym (append-nil a.texts.items);
      bytes_fit = omega arith;
    }

pub bytes_appended : (a b : FlatValues) (tag : ℕ) (bs : List ℕ) → has_bytes tag ≡ true → b.rows.items ≡ a.rows.items ++ value_row tag (length bs) (pos (length a.texts.items)) ∷ [] → b.texts.items ≡ a.texts.items ++ bs → IsAppended a b (counted_row tag (length bs) ∷ []) bs
bytes_appended a b tag bs with_bytes e f =
    let all = at_true (has_bytes tag) (length bs) 0 with_bytes in
    record {
      rows_are = e ∙ ap (λ (r : CValue). a.rows.items ++ r ∷ []) (sym (at_true (has_bytes tag) (value_row tag (length bs) (pos (length a.texts.items))) (counted_row tag (length bs)) with_bytes));
      bytes_are = f;
      bytes_fit = omega arith;
    }

pub none_appended : (a : FlatValues) → IsAppended a a [] []
none_appended a = record { rows_are = sym (append-nil a.rows.items); bytes_are = sym (append-nil a.texts.items); bytes_fit = refl }

-- ---- one after another, as a loop does

-- what is left begins with the one that is appended now
pub left_begins : {A V : Type 0} (view : A → V) (xs : List A) (i : ℕ) (x : A) → i < length xs → x ≡ get_or xs i x → map view (drop i xs) ≡ view x ∷ map view (drop (i + 1) xs)
left_begins view xs i x lt is = rw (add-one, drop-cons xs i x) (ap (λ (y : _). view y ∷ map view (drop (suc i) xs)) (sym is))

module _ {V : Type 0} (rows_of : V → List CValue) (texts_of : V → List ℕ) where
  -- whatever else completes what is left completes the whole
  abbrev pub LeavesFor : FlatValues → FlatValues → List V → List V → Type 0
  LeavesFor start here all left = (end : FlatValues) → IsAppended here end (flat_map rows_of left) (flat_map texts_of left) → IsAppended start end (flat_map rows_of all) (flat_map texts_of all)

  pub leaves_less : (start here next : FlatValues) (all left rest : List V) (x : V) → left ≡ x ∷ rest → LeavesFor start here all left → IsAppended here next (rows_of x) (texts_of x) → LeavesFor start next all rest
  leaves_less start here next all left rest x is before one end others =
      before end (appended_as here end (rows_of x ++ flat_map rows_of rest) (flat_map rows_of left) (texts_of x ++ flat_map texts_of rest) (flat_map texts_of left)
      (ap (λ (ys : List V). flat_map rows_of ys) (sym is)) (ap (λ (ys : List V). flat_map texts_of ys) (sym is)) (appended_after here next end (rows_of x) (flat_map rows_of rest) (texts_of x) (flat_map texts_of rest) one others))

  pub leaves_none : (start here : FlatValues) (all left : List V) → left ≡ [] → LeavesFor start here all left → IsAppended start here (flat_map rows_of all) (flat_map texts_of all)
  leaves_none start here all left none before =
      before here (appended_as here here [] (flat_map rows_of left) [] (flat_map texts_of left) (ap (λ (ys : List V). flat_map rows_of ys) (sym none)) (ap (λ (ys : List V). flat_map texts_of ys) (sym none)) (none_appended here))
