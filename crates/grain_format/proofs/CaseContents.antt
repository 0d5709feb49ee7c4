-- Keys of a map differ, and so do the constants that they are.
use Rattle.std.proofs.Common.{◌≡◌, ℕ, suc, ◌+◌, ◌≤◌, true, false, eqb, List, [], ◌∷◌, ◌++◌, map, length, Option, Some, None, refl, sym, ap, ◌∙◌, arith, append_assoc, inl, inr}
use Rattle.std.specs.Prelude.{option_map, slice_get, nat_lt}
use Rattle.std.specs.List.{AllByRecursion, IsDistinct, list_all, list_any}
use Rattle.std.specs.List.Sorted.{IsPermutation, IsNonDecreasingBy}
use Rattle.std.proofs.lemmas.Bool.{lt-ltb, eq-eqb, eqb-true, cases_Bool}
use Rattle.std.proofs.lemmas.List.{length-map}
use Rattle.std.proofs.lemmas.Option.{slice_get-map, slice_get_within}
use Rattle.std.proofs.lemmas.List.Sorted.{IsPermutation-map, All-permutation}
use Rattle.std.proofs.lemmas.List.Sums.{AllPass-from_list_all, list_all-from_AllPass}
use Rattle.std.proofs.lemmas.Map.Keys.{IsDistinct-IsPermutation}
use Rattle.grain_base.specs.Content.{Content, same}
use Rattle.grain_base.specs.ContentLaws.{same_Decides}
use Rattle.grain_base.specs.View.{content}
use Rattle.grain_base.specs.declared.value.Dynamic.{Dynamic}
use Rattle.grain_format.specs.declared.cases.Case.{Case as CaseField}
use Rattle.grain_format.specs.Form.{Form, value_form, forms}
use Rattle.grain_format.specs.Bare.{bare}
use Rattle.grain_pools.specs.Dispatch.{Case}
use Rattle.grain_format.specs.Cases.{CaseParts, are_new, are_same, are_there, ascend_from, case_content, case_parts, is_keyed, is_keyed_by, same_keys, Cases, Pass, case_view, ordered}
use Rattle.grain_format.proofs.BareForms.{bare_is}
use Rattle.grain_format.proofs.CaseOrder.{and_true, raised, ordered_is}

flipped : (x y : Content) → same x y ≡ same y x
flipped x y = elim (cases_Bool (same y x)) [
  | inl e ↦ (same_Decides x y).1 (sym ((same_Decides y x).0 e)) ∙ sym e
  | inr e ↦ elim (cases_Bool (same x y)) [
    | inl f ↦ absurd (let g : true ≡ false = sym ((same_Decides y x).1 (sym ((same_Decides x y).0 f))) ∙ e in cc)
    | inr f ↦ f ∙ sym e
  ]
]

pub same_flips : (x y : Option Content) → are_same x y ≡ are_same y x
same_flips None None = refl
same_flips None (Some y) = refl
same_flips (Some x) None = refl
same_flips (Some x) (Some y) = flipped x y

bare_of : (o : Option Dynamic) → option_map bare (option_map value_form o) ≡ option_map content o
bare_of None = refl
bare_of (Some v) = ap Some (bare_is v)

-- the content of the constant of a case, read off the constant
pub content_of : (constants : List Dynamic) (c : CaseParts) → case_content (forms constants) c ≡ option_map content (slice_get constants c.0)
content_of constants c = ap (λ (o : Option Form). option_map bare o) (slice_get-map value_form constants c.0) ∙ bare_of (slice_get constants c.0)

keyed_content : (o : Option Dynamic) (key : Dynamic) → is_keyed_by o key ≡ true → option_map content o ≡ Some (content key)
keyed_content None key e = absurd cc
keyed_content (Some v) key e = ap Some ((same_Decides (content v) (content key)).0 e)

there : (o : Option Dynamic) (key : Dynamic) → is_keyed_by o key ≡ true → (v : Dynamic) × (o ≡ Some v)
there None key e = absurd cc
there (Some v) key e = (v, refl)

module _ (constants : List Dynamic) where
  abbrev contents : List CaseParts → List (Option Content)
  contents cs = map (case_content (forms constants)) cs

  one_content : (c : Case) → is_keyed constants c ≡ true → case_content (forms constants) (case_parts c) ≡ Some (content c.0)
  one_content c e = content_of constants (case_parts c) ∙ keyed_content (slice_get constants c.1.1) c.0 e

  contents_apart : (c : Case) (cs : List Case) → is_keyed constants c ≡ true → list_all (is_keyed constants) cs ≡ true
      → AllByRecursion (λ k. same_keys c.0 k ≡ false) (map (λ (d : Case). d.0) cs)
      → AllByRecursion (λ y. are_same (case_content (forms constants) (case_parts c)) y ≡ false) (contents (map case_parts cs))
  contents_apart c [] here keyed apart = tt
  contents_apart c (d ∷ cs) here keyed apart =
      let p = and_true (is_keyed constants d) (list_all (is_keyed constants) cs) keyed in
      (rw (one_content c here, one_content d p.0) apart.0, contents_apart c cs here p.1 apart.1)

  contents_differ : (cs : List Case) → list_all (is_keyed constants) cs ≡ true → IsDistinct same_keys (map (λ (d : Case). d.0) cs) → IsDistinct are_same (contents (map case_parts cs))
  unfolding IsDistinct
  contents_differ [] keyed apart = tt
  contents_differ (c ∷ cs) keyed apart =
      let p = and_true (is_keyed constants c) (list_all (is_keyed constants) cs) keyed in
      (contents_apart c cs p.0 p.1 apart.0, contents_differ cs p.1 apart.1)

  other_constant : (c d : Case) → is_keyed constants c ≡ true → is_keyed constants d ≡ true → same_keys c.0 d.0 ≡ false → eqb c.1.1 d.1.1 ≡ false
  other_constant c d here other apart = elim (cases_Bool (eqb c.1.1 d.1.1)) [
    | inl e ↦ absurd (
        let is = eqb-true c.1.1 d.1.1 e in
        let same_key : Some (content c.0) ≡ Some (content d.0) = sym (keyed_content (slice_get constants c.1.1) c.0 here) ∙ ap (λ (i : ℕ). option_map content (slice_get constants i)) is ∙ keyed_content (slice_get constants d.1.1) d.0 other in
        let one : content c.0 ≡ content d.0 = cc in
        let f : true ≡ false = sym ((same_Decides (content c.0) (content d.0)).1 one) ∙ apart in
        cc)
    | inr e ↦ e
  ]

  constants_apart : (c : Case) (cs : List Case) → is_keyed constants c ≡ true → list_all (is_keyed constants) cs ≡ true
      → AllByRecursion (λ k. same_keys c.0 k ≡ false) (map (λ (d : Case). d.0) cs)
      → AllByRecursion (λ i. eqb c.1.1 i ≡ false) (map (λ (d : CaseParts). d.0) (map case_parts cs))
  constants_apart c [] here keyed apart = tt
  constants_apart c (d ∷ cs) here keyed apart =
      let p = and_true (is_keyed constants d) (list_all (is_keyed constants) cs) keyed in
      (other_constant c d here p.0 apart.0, constants_apart c cs here p.1 apart.1)

  constants_differ : (cs : List Case) → list_all (is_keyed constants) cs ≡ true → IsDistinct same_keys (map (λ (d : Case). d.0) cs)
      → IsDistinct eqb (map (λ (d : CaseParts). d.0) (map case_parts cs))
  unfolding IsDistinct
  constants_differ [] keyed apart = tt
  constants_differ (c ∷ cs) keyed apart =
      let p = and_true (is_keyed constants c) (list_all (is_keyed constants) cs) keyed in
      (constants_apart c cs p.0 p.1 apart.0, constants_differ cs p.1 apart.1)

  all_there : (cs : List Case) → list_all (is_keyed constants) cs ≡ true → are_there (length constants) (map case_parts cs) ≡ true
  all_there [] keyed = refl
  all_there (c ∷ cs) keyed =
      let p = and_true (is_keyed constants c) (list_all (is_keyed constants) cs) keyed in
      let found = there (slice_get constants c.1.1) c.0 p.0 in
      rw (lt-ltb c.1.1 (length constants) (slice_get_within constants c.1.1 found.0 found.1)) (all_there cs p.1)

-- ---- in the order of their constants

eqb_flips : (x y : ℕ) → eqb x y ≡ eqb y x
eqb_flips x y = elim (cases_Bool (eqb y x)) [
  | inl e ↦ rw e (eq-eqb x y (sym (eqb-true y x e)))
  | inr e ↦ elim (cases_Bool (eqb x y)) [
    | inl f ↦ absurd (let g : true ≡ false = sym (eq-eqb y x (sym (eqb-true x y f))) ∙ e in cc)
    | inr f ↦ f ∙ sym e
  ]
]

at_middle : {A : Type 0} (P : A → Type 0) (xs : List A) (y : A) (zs : List A) → AllByRecursion P (xs ++ y ∷ zs) → P y
at_middle P [] y zs all = all.0
at_middle P (x ∷ xs) y zs all = at_middle P xs y zs all.1

not_before : (seen : List (Option Content)) (x : Option Content) (xs : List (Option Content)) → IsDistinct are_same (seen ++ x ∷ xs) → list_any (are_same x) seen ≡ false
unfolding IsDistinct
not_before [] x xs apart = refl
not_before (y ∷ seen) x xs apart = rw (same_flips x y, at_middle (λ z. are_same y z ≡ false) seen x xs apart.0) (not_before seen x xs apart.1)

news : (seen xs : List (Option Content)) → IsDistinct are_same (seen ++ xs) → are_new seen xs ≡ true
news seen [] apart = refl
news seen (x ∷ xs) apart =
    let rest = news (seen ++ x ∷ []) xs (rw (append_assoc seen (x ∷ []) xs) apart) in
    rw (not_before seen x xs apart) rest

abbrev numbers : List CaseField → List ℕ
numbers cs = map (λ (d : CaseParts). d.0) (map case_view cs)

rising : (c : CaseField) (cs : List CaseField) (least : ℕ) → least ≤ c.constant → IsNonDecreasingBy (λ (d : CaseField). d.constant) (c ∷ cs) → IsDistinct eqb (numbers (c ∷ cs)) → ascend_from least (map case_view (c ∷ cs)) ≡ true
unfolding IsDistinct
rising c [] least le rises apart = raised least (case_view c) [] le refl
rising c (d ∷ cs) least le rises apart =
    let step : c.constant ≤ d.constant = rises 0 1 c (omega arith) (omega arith) in
    let differ : eqb c.constant d.constant ≡ false = apart.0.0 in
    let lt : c.constant + 1 ≤ d.constant = grind (arith, eq-eqb) in
    raised least (case_view c) (map case_view (d ∷ cs)) le (rising d cs (c.constant + 1) lt (λ i j e p q. rises (suc i) (suc j) e (omega arith) (omega arith)) apart.1)

ascending : (cs : List CaseField) → IsNonDecreasingBy (λ (d : CaseField). d.constant) cs → IsDistinct eqb (numbers cs) → ascend_from 0 (map case_view cs) ≡ true
ascending [] rises apart = refl
ascending (c ∷ cs) rises apart = rising c cs 0 (omega arith) rises apart

-- Cases of a map, each keyed by its constant, in an order in which the constants don't fall, pass each test of a file.
pub passes : (constants : List Dynamic) (cs : List Case) (fields : List CaseField) → list_all (is_keyed constants) cs ≡ true → IsDistinct same_keys (map (λ (d : Case). d.0) cs)
    → IsPermutation (map case_parts cs) (map case_view fields) → IsNonDecreasingBy (λ (d : CaseField). d.constant) fields → Pass (forms constants) (map case_view fields)
passes constants cs fields keyed apart moved rises =
    let ds : List CaseParts = map case_view fields in
    let numbers_differ = IsDistinct-IsPermutation eqb eqb_flips _ _ (IsPermutation-map (λ (d : CaseParts). d.0) (map case_parts cs) ds moved) (constants_differ constants cs keyed apart) in
    let values = IsDistinct-IsPermutation are_same same_flips _ _ (IsPermutation-map (case_content (forms constants)) (map case_parts cs) ds moved) (contents_differ constants cs keyed apart) in
    record {
      ascend = ascending fields rises numbers_differ;
      there = rw (length-map constants value_form) (list_all-from_AllPass (λ c. nat_lt c.0 (length constants)) ds (All-permutation (λ (c : CaseParts). nat_lt c.0 (length constants) ≡ true) (map case_parts cs) ds moved (AllPass-from_list_all (λ c. nat_lt c.0 (length constants)) (map case_parts cs) (all_there constants cs keyed))));
      new = news [] (map (case_content (forms constants)) ds) values;
    }

pub in_order : (constants : List Dynamic) (m : Cases) (listed : List CaseField) (fields : List CaseField) → list_all (is_keyed constants) m.entries ≡ true → map case_view listed ≡ map case_parts m.entries
    → IsDistinct same_keys (map (λ (d : Case). d.0) m.entries) → IsPermutation listed fields → IsNonDecreasingBy (λ (d : CaseField). d.constant) fields
    → (map case_view fields ≡ ordered (map case_parts m.entries)) × Pass (forms constants) (map case_view fields)
in_order constants m listed fields keyed are apart moved rises =
    let to : IsPermutation (map case_parts m.entries) (map case_view fields) = rw are at (IsPermutation-map case_view listed fields moved) in
    let pass = passes constants m.entries fields keyed apart to rises in
    (sym (ordered_is (map case_parts m.entries) (map case_view fields) 0 to pass.ascend), pass)
