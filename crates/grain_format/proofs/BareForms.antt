use Rattle.std.proofs.Common.{◌≡◌, List, [], ◌∷◌, map, refl, ap}
use Rattle.std.specs.Prelude.{String, string_bytes}
use Rattle.std.specs.declared.alloc.Global.{Global}
use Rattle.grain_base.specs.declared.value.Dynamic.{Dynamic, map-Dynamic}
use Rattle.grain_base.specs.declared.value.FnPtr.{FnPtr}
use Rattle.grain_base.specs.declared.value.Dynamic.TheOpen.{Dynamic-F}
use Rattle.grain_base.specs.declared.value.Dynamic.{fold-roll-Dynamic}
use Rattle.grain_base.specs.declared.value.FnPtr.{fold-roll-FnPtr}
use Rattle.grain_base.specs.declared.value.Dynamic.TheFolds.{ind-Dynamic}
use Rattle.grain_base.specs.View as view
use Rattle.grain_base.specs.View.{content, content_step, pointer_content}
use Rattle.grain_format.specs.Form.{Form, value_form, form_step, pointer_form_step, pointer_form, forms_of, form_entries_of}
use Rattle.grain_format.specs.Bare.{bare, bare_forms, bare_entries}
use Rattle.grain_base.specs.Content as contents
use Rattle.grain_base.specs.Content.{Content}

abbrev IsBare : Dynamic → Type 0
IsBare v = bare (value_form v) ≡ content v

abbrev IsBarePointer : FnPtr → Type 0
IsBarePointer p = bare (pointer_form p) ≡ pointer_content p

abbrev Value : Type 0
Value = (v : Dynamic) × IsBare v

abbrev Pointer : Type 0
Pointer = (p : FnPtr) × IsBarePointer p

bare_each : (vs : List Value) → bare_forms (forms_of (map value_form (map (λ v. v.0) vs))) ≡ view.items_of (map content (map (λ v. v.0) vs))
bare_each [] = refl
bare_each (v ∷ vs) = rw (v.1, bare_each vs) refl

bare_entry : (es : List (String Global × Value)) → bare_entries (form_entries_of (map (λ (e : String Global × Form). (string_bytes e.0, e.1)) (map (λ (e : String Global × Dynamic). (e.0, value_form e.1)) (map (λ (e : String Global × Value). (e.0, e.1.0)) es))))
    ≡ view.entries_of (map (λ (e : String Global × Dynamic). (e.0, content e.1)) (map (λ (e : String Global × Value). (e.0, e.1.0)) es))
bare_entry [] = refl
bare_entry (e ∷ es) = rw (e.1.1, bare_entry es) refl

abbrev plain : Dynamic-F Value Pointer → Dynamic-F Dynamic FnPtr
plain y = map-Dynamic Value Pointer Dynamic FnPtr (λ e. e.0) (λ e. e.0) y

layer_bare : (y : Dynamic-F Value Pointer) → bare (form_step (map-Dynamic Dynamic FnPtr Form Form value_form pointer_form (plain y))) ≡ content_step (map-Dynamic Dynamic FnPtr Content Content content pointer_content (plain y))
layer_bare Dynamic-F.Unit = refl
layer_bare (Dynamic-F.Bool b) = refl
layer_bare (Dynamic-F.Int z) = refl
layer_bare (Dynamic-F.Char n) = refl
layer_bare (Dynamic-F.Str s) = refl
layer_bare (Dynamic-F.Range a b) = refl
layer_bare (Dynamic-F.RangeInclusive a b) = refl
layer_bare (Dynamic-F.Array v) = ap contents.array (bare_each v.items)
layer_bare (Dynamic-F.Blob v) = refl
layer_bare (Dynamic-F.Map m) = ap contents.object_map (bare_entry m.entries)
layer_bare (Dynamic-F.FnPtr p) = p.1
layer_bare (Dynamic-F.Shared v) = v.value.1
layer_bare (Dynamic-F.Host h) = refl
layer_bare (Dynamic-F.Float x) = refl

pub bare_is : (v : Dynamic) → IsBare v
bare_is = ind-Dynamic IsBare IsBarePointer
    (λ x y is. rw (fold-roll-Dynamic Form Form form_step pointer_form_step x, fold-roll-Dynamic Content Content content_step view.pointer_step x, ← is) (layer_bare y))
    (λ x y is. rw (fold-roll-FnPtr Form Form form_step pointer_form_step x, fold-roll-FnPtr Content Content content_step view.pointer_step x, ← is)
    (ap (contents.fn_ptr (string_bytes y.name)) (bare_each y.curry.items)))
