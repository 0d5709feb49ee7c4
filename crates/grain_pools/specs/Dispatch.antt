-- What a switch does with a subject, and what it becomes once its targets are offsets.
use Rattle.std.specs.Prelude.{ℕ, ℤ, int_le, int_lt, List, [], ◌∷◌, ◌++◌, map, Bool, false, ◌&&◌, cond, Option, Some, None, option_map, unwrap_or, ◌≤◌, ◌<◌, length, slice_index_or, nat_le}
use Rattle.std.specs.List.{find, All, Contains, AllWithin, HoldsAt}
use Rattle.std.specs.Map.{lookup}
use Rattle.grain_base.specs.Content.{Content, unit, boolean, integer, character, text, range, range_inclusive, array, blob, object_map, fn_ptr, host, float, same, hashable}
use Rattle.grain_base.specs.View.{content}
use Rattle.grain_base.specs.declared.value.Dynamic.{Dynamic}
use Rattle.grain_pools.specs.declared.switch.SwitchRange.{SwitchRange}
use Rattle.grain_pools.specs.declared.switch.Switch.{Switch}

-- the numbers from one to the other, the last of them if that is inclusive
abbrev pub within : SwitchRange → ℤ → Bool
within r z = int_le r.from z && cond r.inclusive (int_le z r.to) (int_lt z r.to)

-- a range contains integers alone
abbrev pub contains : SwitchRange → Content → Bool
contains r unit = false
contains r (boolean b) = false
contains r (integer z) = within r z
contains r (character n) = false
contains r (text xs) = false
contains r (range a b) = false
contains r (range_inclusive a b) = false
contains r (array xs) = false
contains r (blob xs) = false
contains r (object_map es) = false
contains r (fn_ptr n xs) = false
contains r (host t i) = false
contains r (float n) = false

-- the target of the first range that contains it
abbrev pub by_ranges : List SwitchRange → Content → Option ℕ
by_ranges rs x = option_map (λ r. r.target) (find (λ r. contains r x) rs)

-- a case: its key, its target and the index of its constant
abbrev pub Case : Type 0
Case = Dynamic × (ℕ × ℕ)

-- what a switch holds, in the order in which a subject tries it
pub record Arms : Type 0 where
  pub cases : Option (List Case)
  pub ranges : List SwitchRange
  pub otherwise : ℕ

abbrev pub arms : Switch → Arms
arms s = record { cases = option_map (λ m. m.entries) s.cases; ranges = s.ranges.items; otherwise = s.default }

abbrev pub listed : Option (List Case) → List Case
listed None = []
listed (Some cases) = cases

-- the target at the equal key
abbrev pub by_cases : Option (List Case) → Content → Option ℕ
by_cases cases x = option_map (λ c. c.0) (lookup (λ k. same x (content k)) (listed cases))

-- the target of the equal case, else of the first range, else the default, if a subject that can't be a case leads too
abbrev pub dispatched : Arms → Content → ℕ
dispatched t x = cond (hashable x) (unwrap_or (by_cases t.cases x) (unwrap_or (by_ranges t.ranges x) t.otherwise)) t.otherwise

-- each target among the arms
abbrev pub arm_targets : Arms → List ℕ
arm_targets t = map (λ (c : Case). c.1.0) (listed t.cases) ++ map (λ (r : SwitchRange). r.target) t.ranges ++ t.otherwise ∷ []

-- each target is an index of n offsets
abbrev pub AreWithin : ℕ → Arms → Type 0
AreWithin n t = All (λ target. target < n) (arm_targets t)

-- the first target that is no index of n offsets
abbrev pub first_past : ℕ → List ℕ → Option ℕ
first_past n ts = find (λ t. nat_le n t) ts

-- the offset at a target, and a target past the offsets as it is
abbrev pub offset_at : List ℕ → ℕ → ℕ
offset_at offsets t = slice_index_or offsets t t

abbrev pub resolved_case : List ℕ → ℕ × ℕ → ℕ × ℕ
resolved_case offsets c = (offset_at offsets c.0, c.1)

abbrev pub resolved_range : List ℕ → SwitchRange → SwitchRange
resolved_range offsets r = record r { target = offset_at offsets r.target }

-- the arms with each target replaced by the offset at that index
abbrev pub resolved : List ℕ → Arms → Arms
resolved offsets t = record {
  cases = option_map (map (λ (c : Case). (c.0, resolved_case offsets c.1))) t.cases;
  ranges = map (resolved_range offsets) t.ranges;
  otherwise = offset_at offsets t.otherwise;
}

-- the switch at i is the first that has a target past n offsets, and this is one such target
pub record IsFirstPast (n : ℕ) (ss : List Switch) (i target : ℕ) : Type 0 where
  pub before : AllWithin (λ s. AreWithin n (arms s)) ss 0 i
  pub inside : i < length ss
  pub here : HoldsAt (λ s. Contains (arm_targets (arms s)) target) ss i
  pub past : n ≤ target
