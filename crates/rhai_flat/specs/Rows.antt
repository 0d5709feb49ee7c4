-- Rows that are appended or read, with their bytes.
use Rattle.std.specs.Prelude.{◌≡◌, ℕ, ◌+◌, ◌<◌, ◌^◌, ◌==◌, ◌||◌, nat_lt, Bool, true, if◌then◌else◌, List, [], ◌∷◌, ◌++◌, length, map, to_bits, from_bits}
use Rattle.std.specs.List.{flat_map}
use Rattle.std.specs.Int.{w64, cast_unsigned}
use Rattle.std.specs.Float.{NotNan}
use lib.Ieee.{binary64}
use Rattle.grain_format.specs.Form.{Form}
use Rattle.grain_flat_file.specs.Values.{entry_rows, entry_texts, float_number, placed_rows, row_bytes, value_row, value_rows, value_texts}
use Rattle.grain_flat_file.specs.declared.records.CValue.{CValue}
use Rattle.grain_flat_file.specs.declared.tags.TheConstants as tags
use Rattle.rhai_flat.specs.declared.reader.Reader.{Reader}
use Rattle.rhai_flat.specs.declared.writing.FlatValues.{FlatValues}

-- how many bytes belong to rows
abbrev pub bytes_of_rows : List CValue → ℕ
bytes_of_rows [] = 0
bytes_of_rows (r ∷ rs) = row_bytes r + bytes_of_rows rs

-- ---- NaN has one flat form, and is read from each of its bits

-- the bits of the same number: those of the one NaN if these are of any, and otherwise these
abbrev pub one_nan : ℕ → ℕ
one_nan bits = to_bits binary64 (from_bits binary64 bits)

-- a row with the bits of the one NaN, if it has those of any
unfoldable pub settled : CValue → CValue
settled r = if r.tag == tags.FLOAT then value_row r.tag r.count (float_number (one_nan (cast_unsigned w64 r.number))) else r

unfoldable pub settled_rows : List CValue → List CValue
settled_rows rows = map settled rows

-- ---- what is written

-- these rows were appended, and these are the bytes of their texts and blobs
pub record IsAppended (old new : FlatValues) (rows : List CValue) (bytes : List ℕ) : Type 0 where
  pub rows_are : new.rows.items ≡ old.rows.items ++ placed_rows (length old.texts.items) rows
  pub bytes_are : new.texts.items ≡ old.texts.items ++ bytes
  pub bytes_fit : bytes_of_rows rows ≡ length bytes

-- ---- what is read

-- the tags of values of a run
abbrev pub is_of_run : ℕ → Bool
is_of_run tag = nat_lt tag tags.HOST || tag == tags.FLOAT

-- each is a row of a value of a run
abbrev pub AreOfRun : List CValue → Type 0
AreOfRun [] = Unit {0}
AreOfRun (r ∷ rs) = (is_of_run r.tag ≡ true) × AreOfRun rs

-- these rows were read, and these are the bytes of their texts and blobs
pub record AreRead (old new : Reader) (rows : List CValue) (bytes : List ℕ) : Type 0 where
  pub rows_are : settled_rows old.rows.now ≡ placed_rows old.from rows ++ settled_rows new.rows.now
  pub bytes_are : old.texts.now ≡ bytes ++ new.texts.now
  pub from_is : new.from ≡ old.from + length bytes
  pub bytes_fit : bytes_of_rows rows ≡ length bytes
  pub of_run : AreOfRun rows

-- this row was read, and no bytes
pub record IsRowTaken (old : Reader) (row : CValue) (new : Reader) : Type 0 where
  pub row_is : settled_rows old.rows.now ≡ row ∷ settled_rows new.rows.now
  pub settled_is : settled row ≡ row
  pub bytes_are : new.texts.now ≡ old.texts.now
  pub from_is : new.from ≡ old.from

-- the rows and bytes of this value were read
abbrev pub IsFormRead : Reader → Reader → Form → Type 0
IsFormRead old new x = AreRead old new (value_rows x) (value_texts x)

-- the same, whose first row was read before
abbrev pub IsFormReadBehind : CValue → Reader → Reader → Form → Type 0
IsFormReadBehind row old new x = (before : Reader) → IsRowTaken before row old → IsFormRead before new x

-- the rows and bytes of these values were read
abbrev pub AreFormsRead : Reader → Reader → List Form → Type 0
AreFormsRead old new xs = AreRead old new (flat_map value_rows xs) (flat_map value_texts xs)

-- the rows and bytes of these entries of a map were read
abbrev pub AreEntriesRead : Reader → Reader → List (List ℕ × Form) → Type 0
AreEntriesRead old new es = AreRead old new (flat_map entry_rows es) (flat_map entry_texts es)

-- these are the rows and bytes of these values
pub record AreRowsOf (rows : List CValue) (bytes : List ℕ) (xs : List Form) : Type 0 where
  pub rows_are : rows ≡ placed_rows 0 (flat_map value_rows xs)
  pub bytes_are : bytes ≡ flat_map value_texts xs

-- rows of values of a run, and their bytes, are those of no other values
abbrev pub RowsTellForms : Type 0
RowsTellForms = (rows : List CValue) (bytes : List ℕ) (xs ys : List Form) → AreOfRun rows → AreRowsOf rows bytes xs → AreRowsOf rows bytes ys → xs ≡ ys

-- the bits of what is no NaN stay
abbrev pub NumbersKeepBits : Type 0
NumbersKeepBits = (bits : ℕ) → bits < 2 ^ 64 → NotNan (from_bits binary64 bits) → one_nan bits ≡ bits
