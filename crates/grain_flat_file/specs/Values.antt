-- Values as rows, each before what is in it.
use Rattle.std.specs.Prelude.{◌≡◌, ℕ, ◌+◌, ◌^◌, ◌==◌, nat_lt, if◌then◌else◌, ◌||◌, ℤ, pos, Bool, true, false, cond, List, [], ◌∷◌, ◌++◌, length}
use Rattle.std.specs.List.{flat_map}
use Rattle.std.specs.Int.{w64, cast_signed}
use Rattle.std.proofs.Common.{inl, inr}
use Rattle.grain_base.specs.Tokens.{TokenParts, token_parts}
use Rattle.grain_base.specs.declared.token.Token.{Token}
use Rattle.grain_format.specs.Form.{Form, Forms, Entries, unit, boolean, integer, character, text, range, range_inclusive, array, blob, object_map, fn_ptr, shared, host, float, no_forms, form_then, no_entries, entry_then, listed_forms, listed_entries}
use Rattle.grain_pools.specs.declared.assign_op.AssignOp.{AssignOp}
use Rattle.grain_flat_file.specs.declared.records.CValue.{CValue}
use Rattle.grain_flat_file.specs.declared.records.COpAssignment.{COpAssignment}
use Rattle.grain_flat_file.specs.declared.tags.TheConstants as tags
use Rattle.grain_flat_file.specs.declared.values.ConstantLists.{ConstantLists}
use Rattle.grain_flat_file.specs.declared.values.ValueLists.{ValueLists}

abbrev pub value_row : ℕ → ℕ → ℤ → CValue
value_row tag count number = record { tag = tag; count = count; number = number }

-- a row of this many bytes, or of this many values
abbrev pub counted_row : ℕ → ℕ → CValue
counted_row tag count = value_row tag count (pos 0)

-- the bits of a floating-point number as the signed number of 64 bits that has them. What has more bits stands for itself, so
-- that no two are the same.
unfoldable pub float_number : ℕ → ℤ
float_number bits = if nat_lt bits (2 ^ 64) then cast_signed w64 bits else pos bits

-- ---- the rows of a value, its own first

abbrev mutual
  pub value_rows : Form → List CValue
  value_rows unit = counted_row tags.UNIT 0 ∷ []
  value_rows (boolean false) = counted_row tags.FALSE 0 ∷ []
  value_rows (boolean true) = counted_row tags.TRUE 0 ∷ []
  value_rows (integer z) = value_row tags.INTEGER 0 z ∷ []
  value_rows (character n) = value_row tags.CHARACTER 0 (pos n) ∷ []
  value_rows (text t) = counted_row tags.TEXT (length t) ∷ []
  value_rows (range a b) = counted_row tags.RANGE 0 ∷ value_row tags.INTEGER 0 a ∷ value_row tags.INTEGER 0 b ∷ []
  value_rows (range_inclusive a b) = counted_row tags.RANGE_INCLUSIVE 0 ∷ value_row tags.INTEGER 0 a ∷ value_row tags.INTEGER 0 b ∷ []
  value_rows (array xs) = counted_row tags.ARRAY (length (listed_forms xs)) ∷ rows_of_forms xs
  value_rows (blob b) = counted_row tags.BLOB (length b) ∷ []
  value_rows (object_map es) = counted_row tags.MAP (length (listed_entries es)) ∷ rows_of_entries es
  value_rows (fn_ptr name xs) = counted_row tags.FN_PTR (length (listed_forms xs)) ∷ counted_row tags.TEXT (length name) ∷ rows_of_forms xs
  value_rows (shared x) = counted_row tags.SHARED 0 ∷ value_rows x
  value_rows (host t i) = counted_row tags.HOST 0 ∷ []
  value_rows (float n) = value_row tags.FLOAT 0 (float_number n) ∷ []

  pub rows_of_forms : Forms → List CValue
  rows_of_forms no_forms = []
  rows_of_forms (form_then x xs) = value_rows x ++ rows_of_forms xs

  pub rows_of_entries : Entries → List CValue
  rows_of_entries no_entries = []
  rows_of_entries (entry_then k x es) = (counted_row tags.TEXT (length k) ∷ value_rows x) ++ rows_of_entries es

abbrev pub entry_rows : List ℕ × Form → List CValue
entry_rows e = counted_row tags.TEXT (length e.0) ∷ value_rows e.1

-- ---- the bytes of its texts and blobs, in the order of the rows

abbrev mutual
  pub value_texts : Form → List ℕ
  value_texts unit = []
  value_texts (boolean b) = []
  value_texts (integer z) = []
  value_texts (character n) = []
  value_texts (text t) = t
  value_texts (range a b) = []
  value_texts (range_inclusive a b) = []
  value_texts (array xs) = texts_of_forms xs
  value_texts (blob b) = b
  value_texts (object_map es) = texts_of_entries es
  value_texts (fn_ptr name xs) = name ++ texts_of_forms xs
  value_texts (shared x) = value_texts x
  value_texts (host t i) = []
  value_texts (float n) = []

  pub texts_of_forms : Forms → List ℕ
  texts_of_forms no_forms = []
  texts_of_forms (form_then x xs) = value_texts x ++ texts_of_forms xs

  pub texts_of_entries : Entries → List ℕ
  texts_of_entries no_entries = []
  texts_of_entries (entry_then k x es) = (k ++ value_texts x) ++ texts_of_entries es

abbrev pub entry_texts : List ℕ × Form → List ℕ
entry_texts e = e.0 ++ value_texts e.1

-- ---- operators

abbrev pub operator_rows : TokenParts → List CValue
operator_rows (inl t) = counted_row tags.TEXT (length t) ∷ []
operator_rows (inr n) = value_row tags.OPERATOR 0 (pos n) ∷ []

abbrev pub operator_texts : TokenParts → List ℕ
operator_texts (inl t) = t
operator_texts (inr n) = []

-- of an op-assignment its operator, and the one that it stands for
abbrev pub assigned_rows : AssignOp → List CValue
assigned_rows a = operator_rows (token_parts a.op_assign) ++ operator_rows (token_parts a.op)

abbrev pub assigned_texts : AssignOp → List ℕ
assigned_texts a = operator_texts (token_parts a.op_assign) ++ operator_texts (token_parts a.op)

abbrev pub assigned_names : AssignOp → COpAssignment
assigned_names a = record { op_assign_name = a.op_assign_name; op_name = a.op_name }

-- ---- if rows and bytes begin

-- where the rows of each value begin, those of the first there
abbrev pub value_begins : ℕ → List Form → List ℕ
value_begins from [] = []
value_begins from (x ∷ xs) = from ∷ value_begins (from + length (value_rows x)) xs

abbrev pub has_bytes : ℕ → Bool
has_bytes tag = tag == tags.TEXT || tag == tags.BLOB

-- how many bytes belong to a row
abbrev pub row_bytes : CValue → ℕ
row_bytes r = cond (has_bytes r.tag) r.count 0

-- a row that says where its bytes begin, if it has any
abbrev pub placed_row : ℕ → CValue → CValue
placed_row from r = cond (has_bytes r.tag) (record r { number = pos from }) r

-- the rows, of which the first has its bytes there
abbrev pub placed_rows : ℕ → List CValue → List CValue
placed_rows from [] = []
placed_rows from (r ∷ rs) = placed_row from r ∷ placed_rows (from + row_bytes r) rs

-- these are the constants as rows
pub record AreConstantLists (xs : List Form) (lists : ConstantLists) : Type 0 where
  pub begins_are : lists.begins.items ≡ value_begins 0 xs
  pub rows_are : lists.values.rows.items ≡ placed_rows 0 (flat_map value_rows xs)
  pub texts_are : lists.values.texts.items ≡ flat_map value_texts xs

-- these are the operators, and then those of the op-assignments, as rows
pub record AreOperatorLists (operators : List Token) (assigned : List AssignOp) (lists : ValueLists) : Type 0 where
  pub rows_are : lists.rows.items ≡ placed_rows 0 (flat_map (λ t. operator_rows (token_parts t)) operators ++ flat_map assigned_rows assigned)
  pub texts_are : lists.texts.items ≡ flat_map (λ t. operator_texts (token_parts t)) operators ++ flat_map assigned_texts assigned
