-- Copies of the entries of a map, one after another.
use Rattle.std.proofs.Common.{◌≡◌, ℕ, List, [], ◌∷◌, ◌++◌, String, Global, refl, ap, ◌∙◌, append_assoc}
use Rattle.std.specs.Prelude.{string_bytes}
use Rattle.std.specs.List.{AllByRecursion}
use Rattle.std.specs.List.Sorted.{IsStrictlySortedBy}
use Rattle.std.specs.Map.{keys_of}
use Rattle.std.specs.BTreeMap.{insert_entry}
use Rattle.std.specs.Ordering.{nat_cmp}
use Rattle.std.specs.Cmp.Lexicographic.{slice_cmp}
use Rattle.std.specs.String.{string_cmp}
use Rattle.std.specs.declared.cmp.Ordering.TheVariants.{Less}
use Rattle.grain_base.specs.View.{content, entries_content}
use Rattle.grain_base.specs.Content.{entry}
use Rattle.grain_base.specs.declared.value.Dynamic.{Dynamic}
use Rattle.grain_format.proofs.MapEnd.{behind}

abbrev Entry : Type 0
Entry = String Global × Dynamic

alike : (k l x : String Global) → string_bytes l ≡ string_bytes k → string_cmp x k ≡ Less → string_cmp x l ≡ Less
alike k l x e less = ap (λ (b : List ℕ). slice_cmp nat_cmp (string_bytes x) b) e ∙ less

alike_first : (k l x : String Global) → string_bytes l ≡ string_bytes k → string_cmp k x ≡ Less → string_cmp l x ≡ Less
alike_first k l x e less = ap (λ (b : List ℕ). slice_cmp nat_cmp b (string_bytes x)) e ∙ less

all_alike : (k l : String Global) (xs : List (String Global)) → string_bytes l ≡ string_bytes k → AllByRecursion (λ y. string_cmp k y ≡ Less) xs → AllByRecursion (λ y. string_cmp l y ≡ Less) xs
all_alike k l [] e all = tt
all_alike k l (x ∷ xs) e all = (alike_first k l x e all.0, all_alike k l xs e all.1)

middle_alike : (x k l : String Global) (v w : Dynamic) (es fs : List Entry) → string_bytes l ≡ string_bytes k
    → AllByRecursion (λ y. string_cmp x y ≡ Less) (keys_of (es ++ (k, v) ∷ fs)) → AllByRecursion (λ y. string_cmp x y ≡ Less) (keys_of (es ++ (l, w) ∷ fs))
middle_alike x k l v w [] fs e all = (alike k l x e all.0, all.1)
middle_alike x k l v w (f ∷ es) fs e all = (all.0, middle_alike x k l v w es fs e all.1)

sorted_alike : (k l : String Global) (v w : Dynamic) (es fs : List Entry) → string_bytes l ≡ string_bytes k → IsStrictlySortedBy string_cmp (keys_of (es ++ (k, v) ∷ fs)) → IsStrictlySortedBy string_cmp (keys_of (es ++ (l, w) ∷ fs))
unfolding IsStrictlySortedBy
sorted_alike k l v w [] fs e sorted = (all_alike k l (keys_of fs) e sorted.0, sorted.1)
sorted_alike k l v w (f ∷ es) fs e sorted = (middle_alike f.0 k l v w es fs e sorted.0, sorted_alike k l v w es fs e sorted.1)

first_of_later : (x k : String Global) (v : Dynamic) (es fs : List Entry) → AllByRecursion (λ y. string_cmp x y ≡ Less) (keys_of (es ++ (k, v) ∷ fs)) → string_cmp x k ≡ Less
first_of_later x k v [] fs all = all.0
first_of_later x k v (e ∷ es) fs all = first_of_later x k v es fs all.1

below : (k l : String Global) (v : Dynamic) (es fs : List Entry) → string_bytes l ≡ string_bytes k → IsStrictlySortedBy string_cmp (keys_of (es ++ (k, v) ∷ fs)) → AllByRecursion (λ e. string_cmp e.0 l ≡ Less) es
unfolding IsStrictlySortedBy
below k l v [] fs e sorted = tt
below k l v (f ∷ es) fs e sorted = (alike k l f.0 e (first_of_later f.0 k v es fs sorted.0), below k l v es fs e sorted.1)

same_content : (k l : String Global) (v w : Dynamic) (es fs : List Entry) → string_bytes l ≡ string_bytes k → content w ≡ content v → entries_content (es ++ (l, w) ∷ fs) ≡ entries_content (es ++ (k, v) ∷ fs)
same_content k l v w [] fs e c = rw (e, c) refl
same_content k l v w (f ∷ es) fs e c = ap (entry (string_bytes f.0) (content f.1)) (same_content k l v w es fs e c)

pub copied : (k l : String Global) (v w : Dynamic) (es new fs : List Entry) → string_bytes l ≡ string_bytes k → content w ≡ content v → new ≡ insert_entry string_cmp es l w
    → IsStrictlySortedBy string_cmp (keys_of (es ++ (k, v) ∷ fs))
    → (entries_content (new ++ fs) ≡ entries_content (es ++ (k, v) ∷ fs)) × IsStrictlySortedBy string_cmp (keys_of (new ++ fs))
copied k l v w es new fs e c put sorted =
    let at : new ++ fs ≡ es ++ (l, w) ∷ fs = ap (λ (xs : List Entry). xs ++ fs) (put ∙ behind es l w (below k l v es fs e sorted)) ∙ append_assoc es ((l, w) ∷ []) fs in
    rw at (same_content k l v w es fs e c, sorted_alike k l v w es fs e sorted)
