-- The capabilities that a constant requires of the host, or none if the value can't be a constant.
use Rattle.std.specs.Prelude.{ℕ, List, [], ◌∷◌, map, String, Option, Some, None}
use Rattle.std.specs.Int.RustNames.{bit_or}
use Rattle.std.specs.declared.alloc.Global.{Global}
use Rattle.grain_base.specs.CapBits.{ARRAY, BLOB, MAP, FN_PTR}
use Rattle.grain_base.specs.declared.value.Dynamic.{Dynamic, fold-Dynamic}
use Rattle.grain_base.specs.declared.value.Dynamic.TheOpen.{Dynamic-F, FnPtr-F}

-- these capabilities and those of the parts, or nothing if a part has nothing
abbrev pub with_parts : ℕ → List (Option ℕ) → Option ℕ
with_parts caps [] = Some caps
with_parts caps (None ∷ parts) = None
with_parts caps (Some c ∷ parts) = with_parts (bit_or caps c) parts

abbrev pub values_of : List (String Global × Option ℕ) → List (Option ℕ)
values_of entries = map (λ e. e.1) entries

abbrev pub caps_step : Dynamic-F (Option ℕ) (Option ℕ) → Option ℕ
caps_step (Dynamic-F.Array v) = with_parts ARRAY v.items
caps_step (Dynamic-F.Blob v) = Some BLOB
caps_step (Dynamic-F.Map m) = with_parts MAP (values_of m.entries)
caps_step (Dynamic-F.FnPtr f) = f
caps_step (Dynamic-F.Shared x) = None
caps_step (Dynamic-F.Host h) = None
caps_step Dynamic-F.Unit = Some 0
caps_step (Dynamic-F.Bool b) = Some 0
caps_step (Dynamic-F.Int z) = Some 0
caps_step (Dynamic-F.Char c) = Some 0
caps_step (Dynamic-F.Str s) = Some 0
caps_step (Dynamic-F.Range from to) = Some 0
caps_step (Dynamic-F.RangeInclusive from to) = Some 0
caps_step (Dynamic-F.Float x) = Some 0

abbrev pub pointer_caps_step : FnPtr-F (Option ℕ) (Option ℕ) → Option ℕ
pointer_caps_step f = with_parts FN_PTR f.curry.items

abbrev pub const_caps : Dynamic → Option ℕ
const_caps = fold-Dynamic (Option ℕ) (Option ℕ) caps_step pointer_caps_step

abbrev pub items_caps : ℕ → List Dynamic → Option ℕ
items_caps caps vs = with_parts caps (map const_caps vs)

abbrev pub entries_caps : ℕ → List (String Global × Dynamic) → Option ℕ
entries_caps caps es = with_parts caps (values_of (map (λ e. (e.0, const_caps e.1)) es))
