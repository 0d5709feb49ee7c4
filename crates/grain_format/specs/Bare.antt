-- What a value is once its shared marks are taken off.
use Rattle.grain_base.specs.Content as content
use Rattle.grain_base.specs.Content.{Content, Items, Entries as ContentEntries}
use Rattle.grain_format.specs.Form.{Form, unit, boolean, integer, character, text, range, range_inclusive, array, blob, object_map, fn_ptr, shared, host, float, Forms, no_forms, form_then, Entries, no_entries, entry_then}

abbrev mutual
  pub bare : Form → Content
  bare unit = content.unit
  bare (boolean b) = content.boolean b
  bare (integer z) = content.integer z
  bare (character n) = content.character n
  bare (text t) = content.text t
  bare (range a b) = content.range a b
  bare (range_inclusive a b) = content.range_inclusive a b
  bare (array xs) = content.array (bare_forms xs)
  bare (blob b) = content.blob b
  bare (object_map es) = content.object_map (bare_entries es)
  bare (fn_ptr name xs) = content.fn_ptr name (bare_forms xs)
  bare (shared x) = bare x
  bare (host t i) = content.host t i
  bare (float n) = content.float n

  pub bare_forms : Forms → Items
  bare_forms no_forms = content.no_items
  bare_forms (form_then x xs) = content.item (bare x) (bare_forms xs)

  pub bare_entries : Entries → ContentEntries
  bare_entries no_entries = content.no_entries
  bare_entries (entry_then k x es) = content.entry k (bare x) (bare_entries es)
