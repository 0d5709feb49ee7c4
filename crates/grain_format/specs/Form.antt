-- A value apart from where it is in memory, and how it is encoded in a file.
use Rattle.std.specs.Prelude.{◌≡◌, ℕ, ℤ, suc, zero, ◌<◌, ◌^◌, Bool, true, false, List, [], ◌∷◌, ◌++◌, length, map, max, Option, Some, None, String, string_bytes, option_map, slice_get, ◌-◌}
use Rattle.std.proofs.Math.Utf8.{scalar}
use Rattle.std.specs.declared.alloc.Global.{Global}
use Rattle.std.specs.Ordering.{nat_cmp, is_lt}
use Rattle.std.specs.Cmp.Lexicographic.{slice_cmp}
use Rattle.grain_base.specs.Varint.{zigzag}
use Rattle.grain_format.specs.declared.error.Unkept.{Unkept}
use Rattle.grain_format.specs.declared.error.Unkept.TheVariants.{HostValue}
use Rattle.grain_format.specs.Reading.{or_refused}
use Rattle.grain_format.specs.Numbers.{number}
use Rattle.grain_format.specs.Texts.{counted_bytes}
use Rattle.grain_format.specs.NumberLaws.{IsBelow}
use Rattle.grain_format.specs.TextLaws.{BytesFit, TextFits}
use Rattle.grain_format.specs.Lists.{CountedFit}
use Rattle.grain_base.specs.declared.value.Dynamic.{Dynamic, fold-Dynamic}
use Rattle.grain_base.specs.declared.value.Dynamic.TheOpen.{Dynamic-F, FnPtr-F}
use Rattle.grain_base.specs.declared.value.FnPtr.{FnPtr, fold-FnPtr}

mutual
  pub data Form : Type 0 where
    unit : Form
    boolean : Bool → Form
    integer : ℤ → Form
    character : ℕ → Form
    text : List ℕ → Form
    range : ℤ → ℤ → Form
    range_inclusive : ℤ → ℤ → Form
    array : Forms → Form
    blob : List ℕ → Form
    object_map : Entries → Form
    fn_ptr : List ℕ → Forms → Form
    shared : Form → Form
    -- no file keeps a value that only the host knows
    host : List ℕ → ℕ → Form
    -- the bits of a floating-point number
    float : ℕ → Form

  pub data Forms : Type 0 where
    no_forms : Forms
    form_then : Form → Forms → Forms

  pub data Entries : Type 0 where
    no_entries : Entries
    entry_then : List ℕ → Form → Entries → Entries

abbrev pub forms_of : List Form → Forms
forms_of [] = no_forms
forms_of (x ∷ xs) = form_then x (forms_of xs)

abbrev pub listed_forms : Forms → List Form
listed_forms no_forms = []
listed_forms (form_then x xs) = x ∷ listed_forms xs

abbrev pub form_entries_of : List (List ℕ × Form) → Entries
form_entries_of [] = no_entries
form_entries_of (e ∷ es) = entry_then e.0 e.1 (form_entries_of es)

abbrev pub listed_entries : Entries → List (List ℕ × Form)
listed_entries no_entries = []
listed_entries (entry_then k x es) = (k, x) ∷ listed_entries es

-- ---- of a value

abbrev pub form_step : Dynamic-F Form Form → Form
form_step Dynamic-F.Unit = unit
form_step (Dynamic-F.Bool b) = boolean b
form_step (Dynamic-F.Int z) = integer z
form_step (Dynamic-F.Char n) = character n
form_step (Dynamic-F.Str s) = text (string_bytes s)
form_step (Dynamic-F.Range a b) = range a b
form_step (Dynamic-F.RangeInclusive a b) = range_inclusive a b
form_step (Dynamic-F.Array v) = array (forms_of v.items)
form_step (Dynamic-F.Blob v) = blob v.items
form_step (Dynamic-F.Map m) = object_map (form_entries_of (map (λ e. (string_bytes e.0, e.1)) m.entries))
form_step (Dynamic-F.FnPtr f) = f
form_step (Dynamic-F.Shared x) = shared x.value
form_step (Dynamic-F.Host h) = host (string_bytes h.type_name) h.id
form_step (Dynamic-F.Float x) = float x.bits

abbrev pub pointer_form_step : FnPtr-F Form Form → Form
pointer_form_step f = fn_ptr (string_bytes f.name) (forms_of f.curry.items)

abbrev pub value_form : Dynamic → Form
value_form = fold-Dynamic Form Form form_step pointer_form_step

abbrev pub pointer_form : FnPtr → Form
pointer_form = fold-FnPtr Form Form form_step pointer_form_step

abbrev pub forms : List Dynamic → List Form
forms vs = map value_form vs

abbrev pub entry_forms : List (String Global × Dynamic) → List (List ℕ × Form)
entry_forms es = map (λ (e : String Global × Form). (string_bytes e.0, e.1)) (map (λ e. (e.0, value_form e.1)) es)

-- ---- the spelling: a tag, and what it holds

abbrev mutual
  pub spelled : Form → List ℕ
  spelled unit = 0 ∷ []
  spelled (boolean false) = 1 ∷ []
  spelled (boolean true) = 2 ∷ []
  spelled (integer z) = 3 ∷ number (zigzag z)
  spelled (character n) = 4 ∷ number n
  spelled (text t) = 5 ∷ counted_bytes t
  spelled (range a b) = 6 ∷ (number (zigzag a) ++ number (zigzag b))
  spelled (range_inclusive a b) = 7 ∷ (number (zigzag a) ++ number (zigzag b))
  spelled (array xs) = 8 ∷ (number (length (listed_forms xs)) ++ spelled_forms xs)
  spelled (blob b) = 9 ∷ counted_bytes b
  spelled (object_map es) = 10 ∷ (number (length (listed_entries es)) ++ spelled_entries es)
  spelled (fn_ptr name xs) = 11 ∷ (counted_bytes name ++ (number (length (listed_forms xs)) ++ spelled_forms xs))
  spelled (shared x) = 12 ∷ spelled x
  spelled (host t i) = []
  spelled (float n) = 13 ∷ number n

  pub spelled_forms : Forms → List ℕ
  spelled_forms no_forms = []
  spelled_forms (form_then x xs) = spelled x ++ spelled_forms xs

  pub spelled_entries : Entries → List ℕ
  spelled_entries no_entries = []
  spelled_entries (entry_then k x es) = (counted_bytes k ++ spelled x) ++ spelled_entries es

-- why a value has no spelling: a value of the host is in it
abbrev mutual
  pub value_refusal : Form → Option Unkept
  value_refusal unit = None
  value_refusal (boolean b) = None
  value_refusal (integer z) = None
  value_refusal (character n) = None
  value_refusal (text t) = None
  value_refusal (range a b) = None
  value_refusal (range_inclusive a b) = None
  value_refusal (array xs) = forms_refusal xs
  value_refusal (blob b) = None
  value_refusal (object_map es) = entries_refusal es
  value_refusal (fn_ptr name xs) = forms_refusal xs
  value_refusal (shared x) = value_refusal x
  value_refusal (host t i) = Some HostValue
  value_refusal (float n) = None

  pub forms_refusal : Forms → Option Unkept
  forms_refusal no_forms = None
  forms_refusal (form_then x xs) = or_refused (value_refusal x) (forms_refusal xs)

  pub entries_refusal : Entries → Option Unkept
  entries_refusal no_entries = None
  entries_refusal (entry_then k x es) = or_refused (value_refusal x) (entries_refusal es)

-- how deep values are nested, one that holds none counting 1
abbrev mutual
  pub nesting : Form → ℕ
  nesting unit = 1
  nesting (boolean b) = 1
  nesting (integer z) = 1
  nesting (character n) = 1
  nesting (text t) = 1
  nesting (range a b) = 1
  nesting (range_inclusive a b) = 1
  nesting (array xs) = suc (forms_nesting xs)
  nesting (blob b) = 1
  nesting (object_map es) = suc (entries_nesting es)
  nesting (fn_ptr name xs) = suc (forms_nesting xs)
  nesting (shared x) = suc (nesting x)
  nesting (host t i) = 1
  nesting (float n) = 1

  pub forms_nesting : Forms → ℕ
  forms_nesting no_forms = 0
  forms_nesting (form_then x xs) = max (nesting x) (forms_nesting xs)

  pub entries_nesting : Entries → ℕ
  entries_nesting no_entries = 0
  entries_nesting (entry_then k x es) = max (nesting x) (entries_nesting es)

abbrev pub entry_spelled : List ℕ × Form → List ℕ
entry_spelled e = counted_bytes e.0 ++ spelled e.1

-- ---- which are spelled

-- whether a key comes after the last one, if there is one
abbrev pub comes_after : Option (List ℕ) → List ℕ → Bool
comes_after None key = true
comes_after (Some last) key = is_lt (slice_cmp nat_cmp last key)

abbrev pub last_key : List (List ℕ × Form) → Option (List ℕ)
last_key es = option_map (λ e. e.0) (slice_get es (length es - 1))

-- the keys ascend, from behind the last one on
abbrev pub KeysAscend : Option (List ℕ) → List (List ℕ × Form) → Type 0
KeysAscend last [] = Unit {0}
KeysAscend last (e ∷ es) = (comes_after last e.0 ≡ true) × KeysAscend (Some e.0) es

abbrev pub EntryFits : (Form → Type 0) → List ℕ × Form → Type 0
EntryFits Inner e = TextFits e.0 × Inner e.1

abbrev pub IntegerFits : ℤ → Type 0
IntegerFits z = zigzag z < 2 ^ 64

-- the bits of a floating-point number
abbrev pub FloatFits : ℕ → Type 0
FloatFits n = n < 2 ^ 64

-- a Unicode scalar value, which 32 bits hold
abbrev pub CharacterFits : ℕ → Type 0
CharacterFits n = IsBelow (2 ^ 32) n × (scalar n ≡ true)

-- a value has an encoding if those in it have one
abbrev pub FitsAround : (Form → Type 0) → Form → Type 0
FitsAround Inner unit = Unit {0}
FitsAround Inner (boolean b) = Unit {0}
FitsAround Inner (integer z) = IntegerFits z
FitsAround Inner (character n) = CharacterFits n
FitsAround Inner (text t) = TextFits t
FitsAround Inner (range a b) = IntegerFits a × IntegerFits b
FitsAround Inner (range_inclusive a b) = IntegerFits a × IntegerFits b
FitsAround Inner (array xs) = CountedFit Inner (listed_forms xs)
FitsAround Inner (blob b) = BytesFit b
FitsAround Inner (object_map es) = CountedFit (EntryFits Inner) (listed_entries es) × KeysAscend None (listed_entries es)
FitsAround Inner (fn_ptr name xs) = TextFits name × CountedFit Inner (listed_forms xs)
FitsAround Inner (shared x) = Inner x
FitsAround Inner (host t i) = ⊥
FitsAround Inner (float n) = FloatFits n

-- within a depth
unfoldable pub FitsWithin : ℕ → Form → Type 0
FitsWithin zero x = ⊥
FitsWithin (suc depth) x = FitsAround (FitsWithin depth) x

-- the same at every depth
abbrev mutual
  pub IsSound : Form → Type 0
  IsSound unit = Unit {0}
  IsSound (boolean b) = Unit {0}
  IsSound (integer z) = IntegerFits z
  IsSound (character n) = CharacterFits n
  IsSound (text t) = TextFits t
  IsSound (range a b) = IntegerFits a × IntegerFits b
  IsSound (range_inclusive a b) = IntegerFits a × IntegerFits b
  IsSound (array xs) = (length (listed_forms xs) < 2 ^ 64) × AreSound xs
  IsSound (blob b) = BytesFit b
  IsSound (object_map es) = ((length (listed_entries es) < 2 ^ 64) × AreSoundEntries es) × KeysAscend None (listed_entries es)
  IsSound (fn_ptr name xs) = TextFits name × ((length (listed_forms xs) < 2 ^ 64) × AreSound xs)
  IsSound (shared x) = IsSound x
  IsSound (host t i) = ⊥
  IsSound (float n) = FloatFits n

  pub AreSound : Forms → Type 0
  AreSound no_forms = Unit {0}
  AreSound (form_then x xs) = IsSound x × AreSound xs

  pub AreSoundEntries : Entries → Type 0
  AreSoundEntries no_entries = Unit {0}
  AreSoundEntries (entry_then k x es) = (TextFits k × IsSound x) × AreSoundEntries es
