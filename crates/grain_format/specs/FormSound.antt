-- Sound values fit wherever they are nested no deeper than the depth, and of what fits all is kept.
use Rattle.std.proofs.Common.{◌≡◌, ℕ, zero, suc, ◌<◌, ◌≤◌, ◌^◌, List, [], ◌∷◌, length, max, Option, None, refl, ap, arith}
use Rattle.std.specs.List.{AllByRecursion}
use Rattle.grain_format.specs.declared.error.Unkept.{Unkept}
use Rattle.grain_format.specs.Reading.{or_refused, KeepsAll}
use Rattle.grain_format.specs.Lists.{CountedFit}
use Rattle.grain_format.specs.Refusals.{counted_refusal}
use Rattle.grain_format.specs.TextLaws.{TextFits}
use Rattle.grain_format.specs.Form.{Form, unit, boolean, integer, character, text, range, range_inclusive, array, blob, object_map, fn_ptr, shared, host, float, Forms, no_forms, form_then, Entries, no_entries, entry_then}
use Rattle.grain_format.specs.Form.{forms_of, listed_forms, form_entries_of, listed_entries, value_refusal, forms_refusal, entries_refusal, nesting, forms_nesting, entries_nesting, KeysAscend, EntryFits, FitsAround, FitsWithin, IsSound, AreSound, AreSoundEntries}
use Rattle.grain_format.specs.FormLaws.{listed_forms-forms_of, listed_entries-form_entries_of}

-- ---- what is sound fits

some : (x : Form) → 1 ≤ nesting x
some unit = omega arith
some (boolean b) = omega arith
some (integer z) = omega arith
some (character n) = omega arith
some (text t) = omega arith
some (range a b) = omega arith
some (range_inclusive a b) = omega arith
some (array xs) = omega arith
some (blob b) = omega arith
some (object_map es) = omega arith
some (fn_ptr name xs) = omega arith
some (shared x) = omega arith
some (host t i) = omega arith
some (float n) = omega arith

module _ (d : ℕ) (one : (x : Form) → IsSound x → nesting x ≤ d → FitsWithin d x) where
  all_within : (xs : Forms) → AreSound xs → forms_nesting xs ≤ d → AllByRecursion (FitsWithin d) (listed_forms xs)
  all_within no_forms sound small = tt
  all_within (form_then x xs) sound small = (one x sound.0 (omega arith), all_within xs sound.1 (omega arith))

  entries_within : (es : Entries) → AreSoundEntries es → entries_nesting es ≤ d → AllByRecursion (EntryFits (FitsWithin d)) (listed_entries es)
  entries_within no_entries sound small = tt
  entries_within (entry_then k x es) sound small = ((sound.0.0, one x sound.0.1 (omega arith)), entries_within es sound.1 (omega arith))

pub sound_fits : (d : ℕ) (x : Form) → IsSound x → nesting x ≤ d → FitsWithin d x
unfolding FitsWithin
sound_fits zero x sound small = absurd (let n = some x in omega arith)
sound_fits (suc d) unit sound small = tt
sound_fits (suc d) (boolean b) sound small = tt
sound_fits (suc d) (integer z) sound small = sound
sound_fits (suc d) (character n) sound small = sound
sound_fits (suc d) (text t) sound small = sound
sound_fits (suc d) (range a b) sound small = sound
sound_fits (suc d) (range_inclusive a b) sound small = sound
sound_fits (suc d) (array xs) sound small = (sound.0, all_within d (sound_fits d) xs sound.1 (omega arith))
sound_fits (suc d) (blob b) sound small = sound
sound_fits (suc d) (object_map es) sound small = ((sound.0.0, entries_within d (sound_fits d) es sound.0.1 (omega arith)), sound.1)
sound_fits (suc d) (fn_ptr name xs) sound small = (sound.0, (sound.1.0, all_within d (sound_fits d) xs sound.1.1 (omega arith)))
sound_fits (suc d) (shared x) sound small = sound_fits d x sound (omega arith)
sound_fits (suc d) (host t i) sound small = absurd sound
sound_fits (suc d) (float n) sound small = sound

-- the deepest of some values
abbrev pub deepest : List Form → ℕ
deepest [] = 0
deepest (x ∷ xs) = max (nesting x) (deepest xs)

pub each_within : (d : ℕ) (xs : List Form) → AllByRecursion IsSound xs → deepest xs ≤ d → AllByRecursion (FitsWithin d) xs
each_within d [] sound small = tt
each_within d (x ∷ xs) sound small = (sound_fits d x sound.0 (omega arith), each_within d xs sound.1 (omega arith))

-- ---- what fits within a depth fits within a greater one

module _ (P Q : Form → Type 0) (more : (x : Form) → P x → Q x) where
  each_more : (xs : List Form) → AllByRecursion P xs → AllByRecursion Q xs
  each_more [] fits = tt
  each_more (x ∷ xs) fits = (more x fits.0, each_more xs fits.1)

  entries_more : (es : List (List ℕ × Form)) → AllByRecursion (EntryFits P) es → AllByRecursion (EntryFits Q) es
  entries_more [] fits = tt
  entries_more (e ∷ es) fits = ((fits.0.0, more e.1 fits.0.1), entries_more es fits.1)

  around_more : (x : Form) → FitsAround P x → FitsAround Q x
  around_more unit fits = tt
  around_more (boolean b) fits = tt
  around_more (integer z) fits = fits
  around_more (character n) fits = fits
  around_more (text t) fits = fits
  around_more (range a b) fits = fits
  around_more (range_inclusive a b) fits = fits
  around_more (array xs) fits = (fits.0, each_more (listed_forms xs) fits.1)
  around_more (blob b) fits = fits
  around_more (object_map es) fits = ((fits.0.0, entries_more (listed_entries es) fits.0.1), fits.1)
  around_more (fn_ptr name xs) fits = (fits.0, (fits.1.0, each_more (listed_forms xs) fits.1.1))
  around_more (shared x) fits = more x fits
  around_more (host t i) fits = absurd fits
  around_more (float n) fits = fits

pub value_deeper : (d e : ℕ) → d ≤ e → (x : Form) → FitsWithin d x → FitsWithin e x
unfolding FitsWithin
value_deeper zero e le x fits = absurd fits
value_deeper (suc d) zero le x fits = absurd (omega arith)
value_deeper (suc d) (suc e) le x fits = around_more (FitsWithin d) (FitsWithin e) (value_deeper d e (omega arith)) x fits

pub each_deeper : (d e : ℕ) → d ≤ e → (xs : List Form) → AllByRecursion (FitsWithin d) xs → AllByRecursion (FitsWithin e) xs
each_deeper d e le xs fits = each_more (FitsWithin d) (FitsWithin e) (value_deeper d e le) xs fits

-- ---- lists of values and of entries

pub are_sound : (xs : List Form) → AllByRecursion IsSound xs → AreSound (forms_of xs)
are_sound [] sound = tt
are_sound (x ∷ xs) sound = (sound.0, are_sound xs sound.1)

pub entries_are_sound : (es : List (List ℕ × Form)) → AllByRecursion (EntryFits IsSound) es → AreSoundEntries (form_entries_of es)
entries_are_sound [] sound = tt
entries_are_sound (e ∷ es) sound = (sound.0, entries_are_sound es sound.1)

pub array_is_sound : (xs : List Form) → CountedFit IsSound xs → IsSound (array (forms_of xs))
array_is_sound xs fit = (rw (listed_forms-forms_of xs) fit.0, are_sound xs fit.1)

pub pointer_is_sound : (name : List ℕ) (xs : List Form) → TextFits name → CountedFit IsSound xs → IsSound (fn_ptr name (forms_of xs))
pointer_is_sound name xs name_fits fit = (name_fits, (rw (listed_forms-forms_of xs) fit.0, are_sound xs fit.1))

pub map_is_sound : (es : List (List ℕ × Form)) → length es < 2 ^ 64 → AllByRecursion (EntryFits IsSound) es → KeysAscend None es → IsSound (object_map (form_entries_of es))
map_is_sound es few sound up = ((rw (listed_entries-form_entries_of es) few, entries_are_sound es sound), rw (listed_entries-form_entries_of es) up)

-- ---- of what fits all is kept

pub forms_refused : (xs : List Form) → forms_refusal (forms_of xs) ≡ counted_refusal value_refusal xs
forms_refused [] = refl
forms_refused (x ∷ xs) = ap (λ (r : Option Unkept). or_refused (value_refusal x) r) (forms_refused xs)

abbrev pub entry_refusal : List ℕ × Form → Option Unkept
entry_refusal e = value_refusal e.1

pub entries_refused : (es : List (List ℕ × Form)) → entries_refusal (form_entries_of es) ≡ counted_refusal entry_refusal es
entries_refused [] = refl
entries_refused (e ∷ es) = ap (λ (r : Option Unkept). or_refused (value_refusal e.1) r) (entries_refused es)

module _ (Inner : Form → Type 0) (kept : KeepsAll Inner value_refusal) where
  forms_kept : (xs : Forms) → AllByRecursion Inner (listed_forms xs) → forms_refusal xs ≡ None
  forms_kept no_forms fits = refl
  forms_kept (form_then x xs) fits = rw (kept x fits.0) (forms_kept xs fits.1)

  entries_kept : (es : Entries) → AllByRecursion (EntryFits Inner) (listed_entries es) → entries_refusal es ≡ None
  entries_kept no_entries fits = refl
  entries_kept (entry_then k x es) fits = rw (kept x fits.0.1) (entries_kept es fits.1)

  pub around_kept : KeepsAll (FitsAround Inner) value_refusal
  around_kept unit fits = refl
  around_kept (boolean b) fits = refl
  around_kept (integer z) fits = refl
  around_kept (character n) fits = refl
  around_kept (text t) fits = refl
  around_kept (range a b) fits = refl
  around_kept (range_inclusive a b) fits = refl
  around_kept (array xs) fits = forms_kept xs fits.1
  around_kept (blob b) fits = refl
  around_kept (object_map es) fits = entries_kept es fits.0.1
  around_kept (fn_ptr name xs) fits = forms_kept xs fits.1.1
  around_kept (shared x) fits = kept x fits
  around_kept (host t i) fits = absurd fits
  around_kept (float n) fits = refl

pub value_keeps : (d : ℕ) → KeepsAll (FitsWithin d) value_refusal
unfolding FitsWithin
value_keeps zero x fits = absurd fits
value_keeps (suc d) x fits = around_kept (FitsWithin d) (value_keeps d) x fits
