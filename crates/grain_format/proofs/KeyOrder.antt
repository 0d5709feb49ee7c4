-- The keys of a map ascend.
use Rattle.std.proofs.Common.{◌≡◌, true, List, [], ◌∷◌, None, Some, String, Global, refl}
use Rattle.std.specs.Prelude.{string_bytes}
use Rattle.std.specs.List.Sorted.{IsStrictlySortedBy}
use Rattle.std.specs.Map.{keys_of}
use Rattle.std.specs.Ordering.{is_lt}
use Rattle.std.specs.String.{string_cmp}
use Rattle.std.proofs.lemmas.Map.Keys.{sorted_head, sorted_tail}
use Rattle.grain_base.specs.declared.value.Dynamic.{Dynamic}
use Rattle.grain_format.specs.Form.{entry_forms, KeysAscend}

after : (e : String Global × Dynamic) (es : List (String Global × Dynamic)) → IsStrictlySortedBy string_cmp (keys_of (e ∷ es)) → KeysAscend (Some (string_bytes e.0)) (entry_forms es)
after e [] sorted = tt
after e (f ∷ es) sorted =
    let head = sorted_head string_cmp e.0 (keys_of (f ∷ es)) sorted in
    let less : is_lt (string_cmp e.0 f.0) ≡ true = rw head.0 refl in
    (less, after f es (sorted_tail string_cmp e.0 (keys_of (f ∷ es)) sorted))

pub ascending : (es : List (String Global × Dynamic)) → IsStrictlySortedBy string_cmp (keys_of es) → KeysAscend None (entry_forms es)
ascending [] sorted = tt
ascending (e ∷ es) sorted = (refl, after e es sorted)
