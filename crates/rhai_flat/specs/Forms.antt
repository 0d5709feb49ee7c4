-- A value of a run apart from where it is in memory: as the form that a constant has.
use Rattle.std.specs.Prelude.{ℕ, Bool, true, false, List, [], map, String, string_bytes, to_bits}
use Rattle.std.specs.declared.alloc.Global.{Global}
use lib.Ieee.{binary64}
use Rattle.grain_format.specs.Form.{Form, unit, boolean, integer, character, text, range, range_inclusive, array, blob, object_map, fn_ptr, shared, host, float, forms_of, form_entries_of}
use Rattle.rhai_values.specs.declared.interval.Interval.{Interval}
use Rattle.rhai_values.specs.declared.value.Foreign.{Foreign}
use Rattle.rhai_values.specs.declared.value.Value.{Value, fold-Value}
use Rattle.rhai_values.specs.declared.value.List.{List as ValueList, fold-List}
use Rattle.rhai_values.specs.declared.value.Object.{Object, fold-Object}
use Rattle.rhai_values.specs.declared.value.Pointer.{Pointer, fold-Pointer}
use Rattle.rhai_values.specs.declared.value.Value.TheOpen.{Value-F, List-F, Object-F, Pointer-F}

abbrev pub range_form : Bool → Interval → Form
range_form false r = range r.from r.to
range_form true r = range_inclusive r.from r.to

-- a value of the host's own: its kind and its number, as no constant is
abbrev pub foreign_form : Foreign → Form
foreign_form f = shared (range f.kind f.number)

-- a shared variable has no flat form
abbrev pub flat_step : Value-F Form Form Form Form → Form
flat_step Value-F.Unit = unit
flat_step (Value-F.Bool b) = boolean b
flat_step (Value-F.Int z) = integer z
flat_step (Value-F.Char n) = character n
flat_step (Value-F.Text t) = text (string_bytes t.value.string)
flat_step (Value-F.Range r) = range_form r.value.inclusive r.value
flat_step (Value-F.Array l) = l.value
flat_step (Value-F.Blob b) = blob b.value.items
flat_step (Value-F.Map m) = m.value
flat_step (Value-F.Pointer p) = p.value
flat_step (Value-F.Foreign f) = foreign_form f.value
flat_step (Value-F.Shared i) = host [] i.value
flat_step (Value-F.Float x) = float (to_bits binary64 x)

abbrev pub flat_list_step : List-F Form Form Form Form → Form
flat_list_step l = array (forms_of l.items.items)

abbrev pub flat_object_step : Object-F Form Form Form Form → Form
flat_object_step o = object_map (form_entries_of (map (λ e. (string_bytes e.0, e.1)) o.entries.entries))

abbrev pub flat_pointer_step : Pointer-F Form Form Form Form → Form
flat_pointer_step p = fn_ptr (string_bytes p.name) (forms_of p.bound.items)

abbrev pub flat_form : Value → Form
flat_form = fold-Value Form Form Form Form flat_step flat_list_step flat_object_step flat_pointer_step

abbrev pub flat_list : ValueList → Form
flat_list = fold-List Form Form Form Form flat_step flat_list_step flat_object_step flat_pointer_step

abbrev pub flat_object : Object → Form
flat_object = fold-Object Form Form Form Form flat_step flat_list_step flat_object_step flat_pointer_step

abbrev pub flat_pointer : Pointer → Form
flat_pointer = fold-Pointer Form Form Form Form flat_step flat_list_step flat_object_step flat_pointer_step

abbrev pub flat_forms : List Value → List Form
flat_forms vs = map flat_form vs

abbrev pub flat_entries : List (String Global × Value) → List (List ℕ × Form)
flat_entries es = map (λ (e : String Global × Form). (string_bytes e.0, e.1)) (map (λ e. (e.0, flat_form e.1)) es)
