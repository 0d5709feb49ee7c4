-- The cases of a switch. A map has them in no order, and a file in that of their constants: so switches whose maps have the
-- same cases are one in a file.
use Rattle.std.specs.Prelude.{◌≡◌, ℕ, ◌+◌, Vec, length, List, [], ◌∷◌, ◌++◌, Bool, true, false, not, ◌&&◌, Option, Some, None, map, nat_le, nat_lt, option_map, slice_get, if◌then◌else◌}
use Rattle.std.specs.List.{list_all, list_any}
use Rattle.grain_base.specs.Content.{Content, same}
use Rattle.grain_base.specs.View.{content}
use Rattle.grain_base.specs.declared.value.Dynamic.{Dynamic}
use Rattle.std.specs.List.Sorted.{IsPermutation}
use Rattle.std.specs.HashMap.{HashMap}
use Rattle.std.specs.declared.alloc.Global.{Global}
use Rattle.std.specs.declared.hash.FoldHasher.{FoldHasher}
use Rattle.std.specs.declared.hash.BuildHasherDefault.{BuildHasherDefault}
use Rattle.grain_format.specs.declared.cases.Case.{Case as CaseField}
use Rattle.grain_pools.specs.Dispatch.{Case}
use Rattle.grain_format.specs.Form.{Form, forms}
use Rattle.grain_format.specs.Bare.{bare}

-- the index of the constant of a case, and its target
abbrev pub CaseParts : Type 0
CaseParts = ℕ × ℕ

-- a case among others, in front of the first that has a greater constant
abbrev pub put_case : CaseParts → List CaseParts → List CaseParts
put_case c [] = c ∷ []
put_case c (d ∷ ds) = if nat_lt c.0 d.0 then c ∷ d ∷ ds else d ∷ put_case c ds

-- in the order of their constants
unfoldable pub ordered : List CaseParts → List CaseParts
ordered [] = []
ordered (c ∷ cs) = put_case c (ordered cs)

-- The constants strictly ascend, and the first is no less than this.
abbrev pub ascend_from : ℕ → List CaseParts → Bool
ascend_from least [] = true
ascend_from least (c ∷ cs) = nat_le least c.0 && ascend_from (c.0 + 1) cs

-- there are at least this number of constants
abbrev pub are_there : ℕ → List CaseParts → Bool
are_there count cs = list_all (λ c. nat_lt c.0 count) cs

-- the content of the constant of a case, if it is there
abbrev pub case_content : List Form → CaseParts → Option Content
case_content constants c = option_map bare (slice_get constants c.0)

-- the same content, if both are there
abbrev pub are_same : Option Content → Option Content → Bool
are_same None y = false
are_same (Some x) None = false
are_same (Some x) (Some y) = same x y

-- none of the contents is that of an earlier one, or among those that were seen
abbrev pub are_new : List (Option Content) → List (Option Content) → Bool
are_new seen [] = true
are_new seen (x ∷ xs) = not (list_any (are_same x) seen) && are_new (seen ++ x ∷ []) xs

abbrev pub case_parts : Case → CaseParts
case_parts c = (c.1.1, c.1.0)

-- the key is the constant, shared marks apart
abbrev pub is_keyed_by : Option Dynamic → Dynamic → Bool
is_keyed_by None key = false
is_keyed_by (Some constant) key = same (content constant) (content key)

-- whether the key of a case is the constant that it names
abbrev pub is_keyed : List Dynamic → Case → Bool
is_keyed constants c = is_keyed_by (slice_get constants c.1.1) c.0

abbrev pub Cases : Type 0
Cases = HashMap Dynamic (ℕ × ℕ) (BuildHasherDefault FoldHasher)

abbrev pub case_view : CaseField → CaseParts
case_view c = (c.constant, c.target)

-- What was gathered of cases: each by the value of its constant. Nothing, if two of these are the same.
abbrev pub Gathered : List Dynamic → List CaseParts → Option Cases → Type 0
Gathered constants cs None = are_new [] (map (case_content (forms constants)) cs) ≡ false
Gathered constants cs (Some m) = (are_new [] (map (case_content (forms constants)) cs) ≡ true) × (list_all (is_keyed constants) m.entries ≡ true) × IsPermutation cs (map case_parts m.entries)

-- whether two keys are the same
abbrev pub same_keys : Dynamic → Dynamic → Bool
same_keys v w = same (content v) (content w)

-- Nothing, if the key of a case isn't its constant; else the cases in the order of the map.
abbrev pub IsListed : List Dynamic → Cases → Option (Vec CaseField Global) → Type 0
IsListed constants m None = list_all (is_keyed constants) m.entries ≡ false
IsListed constants m (Some v) = (list_all (is_keyed constants) m.entries ≡ true) × (map case_view v.items ≡ map case_parts m.entries)

-- Cases pass each test of a file: their constants ascend and are there, and differ in what they are.
pub record Pass (constants : List Form) (cs : List CaseParts) : Type 0 where
  pub ascend : ascend_from 0 cs ≡ true
  pub there : are_there (length constants) cs ≡ true
  pub new : are_new [] (map (case_content constants) cs) ≡ true

-- Nothing, if the key of a case isn't its constant; else the cases in the order of their constants, which pass each test.
abbrev pub AreInOrder : List Dynamic → List Case → Option (Vec CaseField Global) → Type 0
AreInOrder constants cs None = list_all (is_keyed constants) cs ≡ false
AreInOrder constants cs (Some v) = (list_all (is_keyed constants) cs ≡ true) × (map case_view v.items ≡ ordered (map case_parts cs)) × Pass (forms constants) (map case_view v.items)
