-- What of switches is kept: the cases by their constants, the ranges and the default.
use Rattle.std.specs.Prelude.{ℕ, ℤ, ◌^◌, ◌≤◌, nat_le, max, length, List, [], ◌∷◌, map, Bool, true, false, Option, Some, None, option_map, refl, if◌then◌else◌}
use Rattle.std.specs.List.{list_all, AllByRecursion}
use Rattle.std.proofs.Common.{arith}
use Rattle.std.proofs.lemmas.Bool.{le-leb, leb-true}
use Rattle.grain_pools.specs.Dispatch.{arms, listed}
use Rattle.grain_pools.specs.declared.switch.Switch.{Switch}
use Rattle.grain_pools.specs.declared.switch.SwitchRange.{SwitchRange}
use Rattle.grain_base.specs.Varint.{zigzag}
use Rattle.grain_base.specs.declared.value.Dynamic.{Dynamic}
use Rattle.grain_format.specs.declared.error.FieldFault.{FieldFault}
use Rattle.grain_format.specs.declared.error.FieldFault.TheVariants.{CaseOrder, NoConstant, TooManyCases, SameCase}
use Rattle.grain_format.specs.declared.error.Unkept.{Unkept}
use Rattle.grain_format.specs.declared.error.Unkept.TheVariants.{CaseKey}
use Rattle.grain_format.specs.Form.{Form}
use Rattle.grain_format.specs.FormAt.{signed}
use Rattle.grain_format.specs.FormLaws.{zigzag_signed, signed_zigzag}
use Rattle.grain_format.specs.Formats.{Format, any_number, number_below, tag_below, only, viewed_as, both, checked, counted_list}
use Rattle.grain_pools.specs.Dispatch.{Case}
use Rattle.grain_format.specs.Cases.{CaseParts, Cases, are_new, are_there, ascend_from, case_content, case_parts, is_keyed, ordered}

-- a signed number, by zigzag
abbrev pub integer_format : Format ℤ
integer_format = viewed_as signed zigzag zigzag_signed signed_zigzag any_number

abbrev pub bool_tag : Bool → ℕ
bool_tag false = 0
bool_tag true = 1

abbrev pub RangeParts : Type 0
RangeParts = ℤ × (ℤ × (ℕ × ℕ))

abbrev pub range_parts : SwitchRange → RangeParts
range_parts r = (r.from, (r.to, (bool_tag r.inclusive, r.target)))

abbrev pub range_format : Format RangeParts
range_format = both integer_format (both integer_format (both (tag_below 2) (number_below (2 ^ 32))))

-- the index of the constant of a case, and its target
abbrev pub case_format : Format CaseParts
case_format = both (number_below (2 ^ 32)) (number_below (2 ^ 32))

-- whether the key of each case is its constant, and the cases in the order of their constants
abbrev pub KeyedCases : Type 0
KeyedCases = Bool × List CaseParts

abbrev pub keyed : List Dynamic → List Case → KeyedCases
keyed constants cs = (list_all (is_keyed constants) cs, ordered (map case_parts cs))

abbrev pub keyed_cases : List Dynamic → Option Cases → KeyedCases
keyed_cases constants cases = keyed constants (listed (option_map (λ m. m.entries) cases))

abbrev pub key_refusal : Bool → Option Unkept
key_refusal true = None
key_refusal false = Some CaseKey

abbrev pub has_few : ℕ → List CaseParts → Bool
has_few most cs = nat_le (length cs) most

-- the values of the constants differ
abbrev pub do_differ : List Form → List CaseParts → Bool
do_differ constants cs = are_new [] (map (case_content constants) cs)

-- the first test that cases don't pass, before their values are looked at
abbrev pub case_flaw : ℕ → ℕ → List CaseParts → Option FieldFault
case_flaw count most cs = if ascend_from 0 cs then (if are_there count cs then (if has_few most cs then None else Some TooManyCases) else Some NoConstant) else Some CaseOrder

-- cases that ascend
abbrev pub ascending_format : Format (List CaseParts)
ascending_format = checked (ascend_from 0) CaseOrder (counted_list case_format)

-- At most `most` cases, whose keys are their constants. Those are there and ascend, and differ in their values.
abbrev pub cases_format : ℕ → List Form → Format KeyedCases
cases_format most constants =
    both (only true key_refusal refl) (checked (do_differ constants) SameCase (checked (has_few most) TooManyCases (checked (are_there (length constants)) NoConstant ascending_format)))

abbrev pub SwitchParts : Type 0
SwitchParts = KeyedCases × (List RangeParts × ℕ)

abbrev pub switch_parts : List Dynamic → Switch → SwitchParts
switch_parts constants s = (keyed constants (listed (arms s).cases), (map range_parts s.ranges.items, s.default))

abbrev pub switch_format : ℕ → List Form → Format SwitchParts
switch_format most constants = both (cases_format most constants) (both (counted_list range_format) (number_below (2 ^ 32)))

-- the spelling and the reason against it, which depend on nothing else
abbrev pub switch_spelling : SwitchParts → List ℕ
switch_spelling = (switch_format 0 []).spelling

abbrev pub switch_refusal : SwitchParts → Option Unkept
switch_refusal = (switch_format 0 []).refusal

-- how many cases the switch has that has most
abbrev pub most_cases : List SwitchParts → ℕ
most_cases [] = 0
most_cases (s ∷ ss) = max (length s.0.1) (most_cases ss)

-- it fits if a switch may have as many cases as it has
abbrev pub FitsAlone : List Form → SwitchParts → Type 0
FitsAlone constants s = (switch_format (length s.0.1) constants).Fits s

fits_more : (constants : List Form) (m n : ℕ) (s : SwitchParts) → m ≤ n → (switch_format m constants).Fits s → (switch_format n constants).Fits s
fits_more constants m n s le fits =
    let few = le-leb (length s.0.1) n (omega (arith, leb-true (length s.0.1) m fits.0.1.0.1)) in
    ((fits.0.0, ((fits.0.1.0.0, few), fits.0.1.1)), fits.1)

pub each_switch : (constants : List Form) (most : ℕ) (ss : List SwitchParts) → AllByRecursion (FitsAlone constants) ss → most_cases ss ≤ most → AllByRecursion (switch_format most constants).Fits ss
each_switch constants most [] fits le = tt
each_switch constants most (s ∷ ss) fits le = (fits_more constants (length s.0.1) most s (omega arith) fits.0, each_switch constants most ss fits.1 (omega arith))

pub each_more : (constants : List Form) (m n : ℕ) (ss : List SwitchParts) → m ≤ n → AllByRecursion (switch_format m constants).Fits ss → AllByRecursion (switch_format n constants).Fits ss
each_more constants m n [] le fits = tt
each_more constants m n (s ∷ ss) le fits = (fits_more constants m n s le fits.0, each_more constants m n ss le fits.1)
