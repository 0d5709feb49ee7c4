-- The content of a `Dynamic`: a shared value stands for its content at every depth.
use Rattle.std.specs.Prelude.{Bool, true, false, List, [], ◌∷◌, map, String, string_bytes}
use Rattle.std.specs.declared.alloc.Global.{Global}
use Rattle.grain_base.specs.Content.{Content, unit, boolean, integer, character, text, range, range_inclusive, array, blob, object_map, fn_ptr, host, float, Items, no_items, item, Entries, no_entries, entry}
use Rattle.grain_base.specs.declared.value.Dynamic.{Dynamic, fold-Dynamic, Shared'}
use Rattle.grain_base.specs.declared.value.Dynamic.TheOpen.{Dynamic-F, FnPtr-F}
use Rattle.grain_base.specs.declared.value.FnPtr.{FnPtr, fold-FnPtr}

abbrev pub items_of : List Content → Items
items_of [] = no_items
items_of (x ∷ xs) = item x (items_of xs)

abbrev pub entries_of : List (String Global × Content) → Entries
entries_of [] = no_entries
entries_of (e ∷ es) = entry (string_bytes e.0) e.1 (entries_of es)

abbrev pub content_step : Dynamic-F Content Content → Content
content_step Dynamic-F.Unit = unit
content_step (Dynamic-F.Bool b) = boolean b
content_step (Dynamic-F.Int z) = integer z
content_step (Dynamic-F.Char n) = character n
content_step (Dynamic-F.Str s) = text (string_bytes s)
content_step (Dynamic-F.Range a b) = range a b
content_step (Dynamic-F.RangeInclusive a b) = range_inclusive a b
content_step (Dynamic-F.Array v) = array (items_of v.items)
content_step (Dynamic-F.Blob v) = blob v.items
content_step (Dynamic-F.Map m) = object_map (entries_of m.entries)
content_step (Dynamic-F.FnPtr f) = f
content_step (Dynamic-F.Shared x) = x.value
content_step (Dynamic-F.Host h) = host (string_bytes h.type_name) h.id
content_step (Dynamic-F.Float x) = float x.bits

abbrev pub pointer_step : FnPtr-F Content Content → Content
pointer_step f = fn_ptr (string_bytes f.name) (items_of f.curry.items)

abbrev pub content : Dynamic → Content
content = fold-Dynamic Content Content content_step pointer_step

abbrev pub pointer_content : FnPtr → Content
pointer_content = fold-FnPtr Content Content content_step pointer_step

abbrev pub items_content : List Dynamic → Items
items_content vs = items_of (map content vs)

abbrev pub entries_content : List (String Global × Dynamic) → Entries
entries_content es = entries_of (map (λ e. (e.0, content e.1)) es)

-- whether the outermost mark is the shared one
abbrev pub is_shared : Dynamic → Bool
is_shared (Shared' p x) = true
is_shared _ = false
