-- Rows whose NaN is the one NaN.
use Rattle.std.proofs.Common.{◌≡◌, ℕ, Bool, true, false, List, [], ◌∷◌, length, refl, sym, ap, ◌∙◌, arith}
use Rattle.std.specs.Prelude.{◌==◌, to_bits, from_bits}
use Rattle.std.specs.Int.{w64, cast_unsigned}
use lib.Ieee.{binary64}
use lib.Ieee.Bits.{of_bits-fits, of_bits-to_bits, to_bits-of_bits}
use Rattle.grain_flat_file.specs.Values.{float_number, value_row}
use Rattle.grain_flat_file.specs.declared.records.CValue.{CValue}
use Rattle.grain_flat_file.specs.declared.tags.TheConstants as tags
use Rattle.grain_flat_file.proofs.FloatNumbers.{bits_back}
use Rattle.rhai_flat.specs.Rows.{AreOfRun, NumbersKeepBits, is_of_run, one_nan, settled, settled_rows}
use Rattle.rhai_flat.proofs.PlacedRows.{at_false, at_true}

pub keep_bits : NumbersKeepBits
keep_bits bits small number = to_bits-of_bits binary64 bits small number

settled_once : (bits : ℕ) → one_nan (one_nan bits) ≡ one_nan bits
settled_once bits = ap (λ (x : _). to_bits binary64 x) (of_bits-to_bits binary64 (from_bits binary64 bits) (of_bits-fits binary64 bits))

-- a row with this float
abbrev float_row : CValue → CValue
float_row r = value_row r.tag r.count (float_number (one_nan (cast_unsigned w64 r.number)))

at_float : (r : CValue) → (r.tag == tags.FLOAT) ≡ true → settled r ≡ float_row r
unfolding settled
at_float r e = at_true (r.tag == tags.FLOAT) (float_row r) r e

at_other : (r : CValue) → (r.tag == tags.FLOAT) ≡ false → settled r ≡ r
unfolding settled
at_other r e = at_false (r.tag == tags.FLOAT) (float_row r) r e

float_row_stays : (r : CValue) → float_row (float_row r) ≡ float_row r
float_row_stays r =
    let bits = one_nan (cast_unsigned w64 r.number) in
    let same : one_nan (cast_unsigned w64 (float_number bits)) ≡ bits = ap one_nan (bits_back bits) ∙ settled_once (cast_unsigned w64 r.number) in
    ap (λ (n : ℕ). value_row r.tag r.count (float_number n)) same

settled_by : (b : Bool) (r : CValue) → (r.tag == tags.FLOAT) ≡ b → settled (settled r) ≡ settled r
settled_by true r e = ap settled (at_float r e) ∙ at_float (float_row r) e ∙ float_row_stays r ∙ sym (at_float r e)
settled_by false r e = ap settled (at_other r e)

pub settled_stays : (r : CValue) → settled (settled r) ≡ settled r
settled_stays r = settled_by (r.tag == tags.FLOAT) r refl

tag_by : (b : Bool) (r : CValue) → (r.tag == tags.FLOAT) ≡ b → (settled r).tag ≡ r.tag
tag_by true r e = ap (λ (s : CValue). s.tag) (at_float r e)
tag_by false r e = ap (λ (s : CValue). s.tag) (at_other r e)

settled_tag : (r : CValue) → (settled r).tag ≡ r.tag
settled_tag r = tag_by (r.tag == tags.FLOAT) r refl

-- what a settled row of a float is
pub float_row_is : (r : CValue) → r.tag ≡ tags.FLOAT → r.count ≡ 0 → settled r ≡ r → r ≡ value_row tags.FLOAT 0 (float_number (one_nan (cast_unsigned w64 r.number)))
float_row_is r tag count is =
    let bits = one_nan (cast_unsigned w64 r.number) in
    let test : (r.tag == tags.FLOAT) ≡ true = ap (λ (t : ℕ). t == tags.FLOAT) tag in
    sym is ∙ at_float r test ∙ ap (λ (t : ℕ). value_row t r.count (float_number bits)) tag ∙ ap (λ (n : ℕ). value_row tags.FLOAT n (float_number bits)) count

-- ---- lists of rows

pub settled_front : (rs rest : List CValue) (r : CValue) → rs ≡ r ∷ rest → settled_rows rs ≡ settled r ∷ settled_rows rest
unfolding settled_rows
settled_front rs rest r e = rw e refl

pub settled_none : (rs : List CValue) → length rs ≡ 0 → settled_rows rs ≡ []
unfolding settled_rows
settled_none [] e = refl
settled_none (r ∷ rs) e = absurd (omega arith)

pub of_run_unsettled : (rs : List CValue) → AreOfRun (settled_rows rs) → AreOfRun rs
unfolding settled_rows
of_run_unsettled [] p = tt
of_run_unsettled (r ∷ rs) p = (ap is_of_run (sym (settled_tag r)) ∙ p.0, of_run_unsettled rs p.1)
