-- An entry whose key comes after all others goes behind them.
use Rattle.std.proofs.Common.{◌≡◌, ℕ, suc, zero, ◌-◌, true, List, [], ◌∷◌, ◌++◌, length, map, Some, String, Global, refl, ap, ◌∙◌, arith}
use Rattle.std.specs.Prelude.{slice_get, option_map, string_bytes}
use Rattle.std.specs.List.{AllByRecursion}
use Rattle.std.specs.List.Sorted.{IsStrictlySortedBy}
use Rattle.std.specs.Map.{keys_of}
use Rattle.std.specs.BTreeMap.{insert_entry}
use Rattle.std.specs.Ordering.{is_lt, ordering_reverse}
use Rattle.std.specs.String.{string_cmp, string_cmp_total}
use Rattle.std.specs.declared.cmp.Ordering.{Ordering}
use Rattle.std.specs.declared.cmp.Ordering.TheVariants.{Less, Equal, Greater}
use Rattle.std.proofs.lemmas.List.{length-map}
use Rattle.std.proofs.lemmas.Map.Keys.{sorted_head, sorted_tail}
use Rattle.grain_base.specs.declared.value.Dynamic.{Dynamic}
use Rattle.grain_format.specs.Form.{Form, value_form, entry_forms, last_key, comes_after}

slice_get_map : {A B : Type 0} (f : A → B) (xs : List A) (i : ℕ) → slice_get (map f xs) i ≡ option_map f (slice_get xs i)
slice_get_map f [] i = refl
slice_get_map f (x ∷ xs) zero = refl
slice_get_map f (x ∷ xs) (suc i) = slice_get_map f xs i

abbrev seen : String Global × Dynamic → List ℕ × Form
seen e = (string_bytes e.0, value_form e.1)

entry_forms_is : (es : List (String Global × Dynamic)) → entry_forms es ≡ map seen es
entry_forms_is [] = refl
entry_forms_is (e ∷ es) = ap (λ (fs : List (List ℕ × Form)). (string_bytes e.0, value_form e.1) ∷ fs) (entry_forms_is es)

pub last_key_is : (es : List (String Global × Dynamic)) (k : String Global) (v : Dynamic) → slice_get es (length es - 1) ≡ Some (k, v) → last_key (entry_forms es) ≡ Some (string_bytes k)
last_key_is es k v e = rw (entry_forms_is es, length-map es seen, slice_get_map seen es (length es - 1), e) refl

last_key-tail : (x y : List ℕ × Form) (es : List (List ℕ × Form)) → last_key (x ∷ y ∷ es) ≡ last_key (y ∷ es)
last_key-tail x y es =
    let n : length (x ∷ y ∷ es) - 1 ≡ suc (length es) = omega arith in
    let m : length (y ∷ es) - 1 ≡ length es = omega arith in
    rw (n, m) refl

is_less : (o : Ordering) → is_lt o ≡ true → o ≡ Less
is_less Less h = refl
is_less Equal h = absurd cc
is_less Greater h = absurd cc

below : (es : List (String Global × Dynamic)) (k : String Global) → IsStrictlySortedBy string_cmp (keys_of es) → comes_after (last_key (entry_forms es)) (string_bytes k) ≡ true → AllByRecursion (λ e. string_cmp e.0 k ≡ Less) es
below [] k sorted h = tt
below (e ∷ []) k sorted h = (is_less (string_cmp e.0 k) h, tt)
below (e ∷ f ∷ es) k sorted h =
    let tail : comes_after (last_key (entry_forms (f ∷ es))) (string_bytes k) ≡ true = rw (last_key-tail (string_bytes e.0, value_form e.1) (string_bytes f.0, value_form f.1) (entry_forms es)) at h in
    let rest = below (f ∷ es) k (sorted_tail string_cmp e.0 (keys_of (f ∷ es)) sorted) tail in
    let head = sorted_head string_cmp e.0 (keys_of (f ∷ es)) sorted in
    (string_cmp_total.trans e.0 f.0 k head.0 rest.0, rest)

pub behind : (es : List (String Global × Dynamic)) (k : String Global) (v : Dynamic) → AllByRecursion (λ e. string_cmp e.0 k ≡ Less) es → insert_entry string_cmp es k v ≡ es ++ (k, v) ∷ []
behind [] k v h = refl
behind (e ∷ es) k v h =
    let greater : string_cmp k e.0 ≡ Greater = string_cmp_total.antisymm k e.0 ∙ ap ordering_reverse h.0 in
    rw greater (ap (λ (fs : List (String Global × Dynamic)). e ∷ fs) (behind es k v h.1))

push : (es : List (String Global × Dynamic)) (k : String Global) (v : Dynamic) → entry_forms (es ++ (k, v) ∷ []) ≡ entry_forms es ++ (string_bytes k, value_form v) ∷ []
push [] k v = refl
push (e ∷ es) k v = ap (λ (fs : List (List ℕ × Form)). (string_bytes e.0, value_form e.1) ∷ fs) (push es k v)

pub inserted : (old new : List (String Global × Dynamic)) (k : String Global) (v : Dynamic) (key : List ℕ) → IsStrictlySortedBy string_cmp (keys_of old) → string_bytes k ≡ key
    → comes_after (last_key (entry_forms old)) key ≡ true → new ≡ insert_entry string_cmp old k v → entry_forms new ≡ entry_forms old ++ (key, value_form v) ∷ []
inserted old new k v key sorted is later e =
    let h : comes_after (last_key (entry_forms old)) (string_bytes k) ≡ true = rw is later in
    rw (e, behind old k v (below old k sorted h), ← is) (push old k v)
