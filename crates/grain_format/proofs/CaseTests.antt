-- Reading the cases of a switch, test by test.
use Rattle.std.proofs.Common.{◌≡◌, ℕ, true, List, map, length, Some, None, Ok, refl, ◌∙◌, inl, inr}
use Rattle.std.proofs.lemmas.Bool.{cases_Bool}
use Rattle.std.proofs.lemmas.List.Sorted.{IsPermutation-sym}
use Rattle.grain_base.specs.declared.value.Dynamic.{Dynamic}
use Rattle.grain_format.specs.declared.error.FieldFault.TheVariants.{CaseOrder, NoConstant, TooManyCases}
use Rattle.grain_format.specs.Formats.{counted_list}
use Rattle.grain_format.specs.Form.{Form}
use Rattle.grain_format.specs.Cases.{CaseParts, Cases, Gathered, are_there, ascend_from, case_parts}
use Rattle.grain_format.specs.Switches.{case_flaw, case_format, cases_format, do_differ, has_few, keyed}
use Rattle.grain_format.proofs.CaseOrder.{ordered_is}

module _ (constants : List Form) (most : ℕ) (bytes rest : List ℕ) (cs : List CaseParts) where
  -- the first three tests passed
  pub record Tested : Type 0 where
    pub ascend : ascend_from 0 cs ≡ true
    pub there : are_there (length constants) cs ≡ true
    pub few : has_few most cs ≡ true

  abbrev Read : Type 0
  Read = (counted_list case_format).reading bytes ≡ Ok (cs, rest)

  pub tested : None ≡ case_flaw (length constants) most cs → Tested
  tested e = elim (cases_Bool (ascend_from 0 cs)) [
    | inr fails ↦ absurd (let is : None ≡ Some CaseOrder = e ∙ rw fails refl in cc)
    | inl a ↦ elim (cases_Bool (are_there (length constants) cs)) [
      | inr fails ↦ absurd (let is : None ≡ Some NoConstant = e ∙ rw (a, fails) refl in cc)
      | inl b ↦ elim (cases_Bool (has_few most cs)) [
        | inr fails ↦ absurd (let is : None ≡ Some TooManyCases = e ∙ rw (a, b, fails) refl in cc)
        | inl d ↦ record { ascend = a; there = b; few = d }
      ]
    ]
  ]

  pub all_read : Read → Tested → do_differ constants cs ≡ true → (cases_format most constants).reading bytes ≡ Ok ((true, cs), rest)
  all_read read t new = rw (read, t.ascend, t.there, t.few, new) refl

pub gathered_are : (constants : List Dynamic) (cs : List CaseParts) (m : Cases) → ascend_from 0 cs ≡ true → Gathered constants cs (Some m) → keyed constants m.entries ≡ (true, cs)
gathered_are constants cs m ascend g = rw (g.1, ordered_is (map case_parts m.entries) cs 0 (IsPermutation-sym cs (map case_parts m.entries) g.2) ascend) refl
