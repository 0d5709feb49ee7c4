-- An entry whose key is greater than all others goes behind them.
use Rattle.std.proofs.Common.{◌≡◌, ℕ, ◌+◌, false, List, [], ◌∷◌, ◌++◌, length, String, Global, refl, sym, ap, ◌∙◌, length-append}
use Rattle.std.specs.Prelude.{string_bytes}
use Rattle.std.specs.BTreeMap.{insert_entry}
use Rattle.std.specs.Cmp.Lexicographic.{nat_list_cmp_total, slice_cmp}
use Rattle.std.specs.List.{All}
use Rattle.std.specs.Map.{keys_of}
use Rattle.std.specs.Ordering.{is_lt, nat_cmp, ordering_reverse}
use Rattle.std.specs.String.{string_cmp, string_cmp_total}
use Rattle.std.specs.declared.cmp.Ordering.{Ordering}
use Rattle.std.specs.declared.cmp.Ordering.TheVariants.{Less, Equal, Greater}
use Rattle.std.proofs.lemmas.List.Elements.{All-head, All-tail, All-weaker}
use Rattle.grain_format.specs.Form.{Form}
use Rattle.rhai_values.specs.declared.value.Value.{Value}
use Rattle.rhai_flat.specs.Forms.{flat_entries, flat_form}

abbrev pub IsKeyBelow : List ℕ → String Global → Type 0
IsKeyBelow key other = slice_cmp nat_cmp (string_bytes other) key ≡ Less

above_both : (last other key : List ℕ) (o : Ordering) → slice_cmp nat_cmp last other ≡ o → is_lt o ≡ false → slice_cmp nat_cmp last key ≡ Less → slice_cmp nat_cmp other key ≡ Less
above_both last other key Less e up h = absurd cc
above_both last other key Equal e up h = sym (nat_list_cmp_total.congr last other key e) ∙ h
above_both last other key Greater e up h = nat_list_cmp_total.trans other last key (nat_list_cmp_total.antisymm other last ∙ ap ordering_reverse e) h

-- a key that is above the last one is above all
pub all_below : (ks : List (String Global)) (last : String Global) (key : List ℕ) → All (λ q. is_lt (string_cmp last q) ≡ false) ks → slice_cmp nat_cmp (string_bytes last) key ≡ Less → All (IsKeyBelow key) ks
all_below ks last key up h =
    All-weaker (λ q. is_lt (string_cmp last q) ≡ false) (IsKeyBelow key) (λ (q : String Global) (e : is_lt (string_cmp last q) ≡ false). above_both (string_bytes last) (string_bytes q) key (string_cmp last q) refl e h) ks up

behind_all : (es : List (String Global × Value)) (k : String Global) (v : Value) → All (IsKeyBelow (string_bytes k)) (keys_of es) → insert_entry string_cmp es k v ≡ es ++ (k, v) ∷ []
behind_all [] k v below = refl
behind_all (e ∷ es) k v below =
    let less : string_cmp e.0 k ≡ Less = All-head (IsKeyBelow (string_bytes k)) e.0 (keys_of es) below in
    let greater : string_cmp k e.0 ≡ Greater = string_cmp_total.antisymm k e.0 ∙ ap ordering_reverse less in
    rw greater (ap (λ (fs : List (String Global × Value)). e ∷ fs) (behind_all es k v (All-tail (IsKeyBelow (string_bytes k)) e.0 (keys_of es) below)))

flat_entries-push : (es : List (String Global × Value)) (k : String Global) (v : Value) → flat_entries (es ++ (k, v) ∷ []) ≡ flat_entries es ++ (string_bytes k, flat_form v) ∷ []
flat_entries-push [] k v = refl
flat_entries-push (e ∷ es) k v = ap (λ (fs : List (List ℕ × Form)). (string_bytes e.0, flat_form e.1) ∷ fs) (flat_entries-push es k v)

-- what an insert makes of the entries, and how many there are then
pub entry_put : (old new : List (String Global × Value)) (k : String Global) (v : Value) (key : List ℕ) → string_bytes k ≡ key → All (IsKeyBelow key) (keys_of old) → new ≡ insert_entry string_cmp old k v
    → (flat_entries new ≡ flat_entries old ++ (key, flat_form v) ∷ []) × (length new ≡ length old + 1)
entry_put old new k v key is below put =
    let under : All (IsKeyBelow (string_bytes k)) (keys_of old) = rw is below in
    let e : new ≡ old ++ (k, v) ∷ [] = put ∙ behind_all old k v under in (
      ap flat_entries e ∙ flat_entries-push old k v ∙ ap (λ (bs : List ℕ). flat_entries old ++ (bs, flat_form v) ∷ []) is,
      ap (λ (es : List (String Global × Value)). length es) e ∙ length-append old ((k, v) ∷ []),
    )
