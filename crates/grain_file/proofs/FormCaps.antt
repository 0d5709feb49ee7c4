-- What a constant requires of the host is read off its form.
use Rattle.std.proofs.Common.{◌≡◌, ℕ, List, [], ◌∷◌, map, refl, ap}
use Rattle.std.specs.Prelude.{Option, Some, None, String, string_bytes}
use Rattle.std.specs.declared.alloc.Global.{Global}
use Rattle.grain_base.specs.CapBits.{ARRAY, BLOB, MAP, FN_PTR}
use Rattle.grain_base.specs.declared.value.Dynamic.{Dynamic, map-Dynamic}
use Rattle.grain_base.specs.declared.value.FnPtr.{FnPtr, fold-FnPtr}
use Rattle.grain_base.specs.declared.value.Dynamic.TheOpen.{Dynamic-F}
use Rattle.grain_base.specs.declared.value.Dynamic.{fold-roll-Dynamic}
use Rattle.grain_base.specs.declared.value.FnPtr.{fold-roll-FnPtr}
use Rattle.grain_base.specs.declared.value.Dynamic.TheFolds.{ind-Dynamic}
use Rattle.grain_format.specs.Form.{Form, unit, boolean, integer, character, text, range, range_inclusive, array, blob, object_map, fn_ptr, shared, host, float, Forms, no_forms, form_then, Entries, no_entries, entry_then}
use Rattle.grain_format.specs.Form.{value_form, form_step, pointer_form_step, pointer_form, forms_of, form_entries_of}
use Rattle.grain_rules.specs.ConstCaps.{caps_step, const_caps, pointer_caps_step, values_of, with_parts}

abbrev mutual
  pub form_caps : Form → Option ℕ
  form_caps unit = Some 0
  form_caps (boolean b) = Some 0
  form_caps (integer z) = Some 0
  form_caps (character n) = Some 0
  form_caps (text t) = Some 0
  form_caps (range a b) = Some 0
  form_caps (range_inclusive a b) = Some 0
  form_caps (array xs) = with_parts ARRAY (forms_caps xs)
  form_caps (blob b) = Some BLOB
  form_caps (object_map es) = with_parts MAP (entries_caps es)
  form_caps (fn_ptr name xs) = with_parts FN_PTR (forms_caps xs)
  form_caps (shared x) = None
  form_caps (host t i) = None
  form_caps (float n) = Some 0

  forms_caps : Forms → List (Option ℕ)
  forms_caps no_forms = []
  forms_caps (form_then x xs) = form_caps x ∷ forms_caps xs

  entries_caps : Entries → List (Option ℕ)
  entries_caps no_entries = []
  entries_caps (entry_then k x es) = form_caps x ∷ entries_caps es

abbrev pointer_caps : FnPtr → Option ℕ
pointer_caps = fold-FnPtr (Option ℕ) (Option ℕ) caps_step pointer_caps_step

abbrev IsRead : Dynamic → Type 0
IsRead v = form_caps (value_form v) ≡ const_caps v

abbrev IsReadPointer : FnPtr → Type 0
IsReadPointer p = form_caps (pointer_form p) ≡ pointer_caps p

abbrev Value : Type 0
Value = (v : Dynamic) × IsRead v

abbrev Pointer : Type 0
Pointer = (p : FnPtr) × IsReadPointer p

read_each : (vs : List Value) → forms_caps (forms_of (map value_form (map (λ v. v.0) vs))) ≡ map const_caps (map (λ v. v.0) vs)
read_each [] = refl
read_each (v ∷ vs) = rw (v.1, read_each vs) refl

read_entry : (es : List (String Global × Value)) → entries_caps (form_entries_of (map (λ (e : String Global × Form). (string_bytes e.0, e.1)) (map (λ (e : String Global × Dynamic). (e.0, value_form e.1)) (map (λ (e : String Global × Value). (e.0, e.1.0)) es))))
    ≡ values_of (map (λ (e : String Global × Dynamic). (e.0, const_caps e.1)) (map (λ (e : String Global × Value). (e.0, e.1.0)) es))
read_entry [] = refl
read_entry (e ∷ es) = rw (e.1.1, read_entry es) refl

abbrev plain : Dynamic-F Value Pointer → Dynamic-F Dynamic FnPtr
plain y = map-Dynamic Value Pointer Dynamic FnPtr (λ e. e.0) (λ e. e.0) y

read_layer : (y : Dynamic-F Value Pointer) → form_caps (form_step (map-Dynamic Dynamic FnPtr Form Form value_form pointer_form (plain y))) ≡ caps_step (map-Dynamic Dynamic FnPtr (Option ℕ) (Option ℕ) const_caps pointer_caps (plain y))
read_layer Dynamic-F.Unit = refl
read_layer (Dynamic-F.Bool b) = refl
read_layer (Dynamic-F.Int z) = refl
read_layer (Dynamic-F.Char n) = refl
read_layer (Dynamic-F.Str s) = refl
read_layer (Dynamic-F.Range a b) = refl
read_layer (Dynamic-F.RangeInclusive a b) = refl
read_layer (Dynamic-F.Array v) = ap (with_parts ARRAY) (read_each v.items)
read_layer (Dynamic-F.Blob v) = refl
read_layer (Dynamic-F.Map m) = ap (with_parts MAP) (read_entry m.entries)
read_layer (Dynamic-F.FnPtr p) = p.1
read_layer (Dynamic-F.Shared v) = refl
read_layer (Dynamic-F.Host h) = refl
read_layer (Dynamic-F.Float x) = refl

pub caps_read : (v : Dynamic) → IsRead v
caps_read = ind-Dynamic IsRead IsReadPointer
    (λ x y is. rw (fold-roll-Dynamic Form Form form_step pointer_form_step x, fold-roll-Dynamic (Option ℕ) (Option ℕ) caps_step pointer_caps_step x, ← is) (read_layer y))
    (λ x y is. rw (fold-roll-FnPtr Form Form form_step pointer_form_step x, fold-roll-FnPtr (Option ℕ) (Option ℕ) caps_step pointer_caps_step x, ← is)
    (ap (with_parts FN_PTR) (read_each y.curry.items)))
