-- Where a switch leads, and where it leads once its targets are offsets.
use Rattle.std.proofs.Common.{◌≡◌, ◌<◌, ℕ, List, [], ◌∷◌, ◌++◌, Bool, true, false, Option, Some, None, IfSome, cond, length, map, option_map, slice_get, unwrap_or, refl, sym, ap, subst, ◌∙◌}
use Rattle.std.proofs.lemmas.List.{get_or-map, length-map}
use Rattle.std.proofs.lemmas.List.Elements.{All-contains, All-head, All-map, All-tail, Contains-append_left, Contains-append_right, Contains-get_or, Contains-push}
use Rattle.std.proofs.lemmas.Map.Made.{lookup-map_values}
use Rattle.std.proofs.lemmas.Map.Views.{IfSome-lookup_from_All}
use Rattle.std.proofs.lemmas.Option.{IfSome_then, slice_get-get_or}
use Rattle.std.specs.List.{All, Contains, find}
use Rattle.std.specs.Map.{lookup}
use Rattle.grain_base.specs.Content.{Content, integer, hashable, same}
use Rattle.grain_base.specs.View.{content}
use Rattle.grain_base.specs.declared.value.Dynamic.{Dynamic}
use Rattle.grain_pools.specs.declared.switch.SwitchRange.{SwitchRange}
use Rattle.grain_pools.specs.Dispatch.{Case, AreWithin, Arms, by_cases, by_ranges, contains, dispatched, listed, offset_at, resolved, resolved_case, resolved_range, arm_targets}

-- the image of each element is among the images
contains_mapped : {X Y : Type 0} (f : X → Y) (xs : List X) → All (λ x. Contains (map f xs) (f x)) xs
contains_mapped f xs k d h =
    subst (Contains (map f xs)) (get_or-map f xs k d (f d) h) (Contains-get_or (map f xs) k (f d) (rw length-map h))

-- what holds of each element holds of the one that is found
found : {X : Type 0} (P : X → Type 0) (p : X → Bool) (xs : List X) → All P xs → IfSome (find p xs) P
found P p [] h = tt
found P p (x ∷ xs) h = at (p x) (found P p xs (All-tail P x xs h))
  where
    at : (b : Bool) → IfSome (find p xs) P → IfSome (cond b (Some x) (find p xs)) P
    at true more = All-head P x xs h
    at false more = more

mapped : {X Y : Type 0} (P : Y → Type 0) (f : X → Y) (o : Option X) → IfSome o (λ x. P (f x)) → IfSome (option_map f o) P
mapped P f None h = tt
mapped P f (Some x) h = h

unwrapped : {X : Type 0} (P : X → Type 0) (o : Option X) (d : X) → IfSome o P → P d → P (unwrap_or o d)
unwrapped P None d h k = k
unwrapped P (Some x) d h k = h

chosen : {X : Type 0} (P : X → Type 0) (b : Bool) (x y : X) → P x → P y → P (cond b x y)
chosen P true x y h k = h
chosen P false x y h k = k

-- the target of a case is among the targets of the cases
case_among : (cases : Option (List Case)) (x : Content) → IfSome (by_cases cases x) (Contains (map (λ (c : Case). c.1.0) (listed cases)))
case_among cases x =
    let among = Contains (map (λ (c : Case). c.1.0) (listed cases)) in
    mapped among (λ (c : ℕ × ℕ). c.0) (lookup (λ k. same x (content k)) (listed cases))
    (IfSome-lookup_from_All (λ (c : ℕ × ℕ). among c.0) (λ k. same x (content k)) (listed cases)
    (All-map (λ (c : ℕ × ℕ). among c.0) (λ (c : Case). c.1) (listed cases) (contains_mapped (λ (c : Case). c.1.0) (listed cases))))

range_among : (rs : List SwitchRange) (x : Content) → IfSome (by_ranges rs x) (Contains (map (λ (r : SwitchRange). r.target) rs))
range_among rs x =
    let among = Contains (map (λ (r : SwitchRange). r.target) rs) in
    mapped among (λ (r : SwitchRange). r.target) (find (λ r. contains r x) rs)
    (found (λ (r : SwitchRange). among r.target) (λ r. contains r x) rs (contains_mapped (λ (r : SwitchRange). r.target) rs))

pub dispatched_among : (t : Arms) (x : Content) → Contains (arm_targets t) (dispatched t x)
dispatched_among t x =
    let among = Contains (arm_targets t) in
    let cases = map (λ (c : Case). c.1.0) (listed t.cases) in
    let ranges = map (λ (r : SwitchRange). r.target) t.ranges in
    let last : among t.otherwise = Contains-push (cases ++ ranges) t.otherwise in
    let by_case : IfSome (by_cases t.cases x) among = IfSome_then (by_cases t.cases x) (case_among t.cases x)
    (λ y h. Contains-append_left (cases ++ ranges) (t.otherwise ∷ []) y (Contains-append_left cases ranges y h)) in
    let by_range : IfSome (by_ranges t.ranges x) among = IfSome_then (by_ranges t.ranges x) (range_among t.ranges x)
    (λ y h. Contains-append_left (cases ++ ranges) (t.otherwise ∷ []) y (Contains-append_right cases ranges y h)) in
    chosen among (hashable x) _ t.otherwise (unwrapped among (by_cases t.cases x) _ by_case (unwrapped among (by_ranges t.ranges x) t.otherwise by_range last)) last

-- a range contains what it contained
contains-resolved : (offsets : List ℕ) (r : SwitchRange) (x : Content) → contains (resolved_range offsets r) x ≡ contains r x
contains-resolved offsets r (integer z) = refl
contains-resolved offsets r _ = refl

by_ranges-resolved : (offsets : List ℕ) (rs : List SwitchRange) (x : Content) → by_ranges (map (resolved_range offsets) rs) x ≡ option_map (offset_at offsets) (by_ranges rs x)
by_ranges-resolved offsets [] x = refl
by_ranges-resolved offsets (r ∷ rs) x = rw (contains-resolved offsets r x) (at (contains r x) (by_ranges-resolved offsets rs x))
  where
    at : (b : Bool) → by_ranges (map (resolved_range offsets) rs) x ≡ option_map (offset_at offsets) (by_ranges rs x)
        → option_map (λ (s : SwitchRange). s.target) (cond b (Some (resolved_range offsets r)) (find (λ s. contains s x) (map (resolved_range offsets) rs)))
        ≡ option_map (offset_at offsets) (option_map (λ (s : SwitchRange). s.target) (cond b (Some r) (find (λ s. contains s x) rs)))
    at true more = refl
    at false more = more

by_cases-resolved : (offsets : List ℕ) (cases : Option (List Case)) (x : Content)
    → by_cases (option_map (map (λ (c : Case). (c.0, resolved_case offsets c.1))) cases) x ≡ option_map (offset_at offsets) (by_cases cases x)
by_cases-resolved offsets None x = refl
by_cases-resolved offsets (Some cs) x =
    rw (lookup-map_values (resolved_case offsets) (λ (k : Dynamic). same x (content k)) cs) (at (lookup (λ k. same x (content k)) cs))
  where
    at : (o : Option (ℕ × ℕ)) → option_map (λ (c : ℕ × ℕ). c.0) (option_map (resolved_case offsets) o) ≡ option_map (offset_at offsets) (option_map (λ (c : ℕ × ℕ). c.0) o)
    at None = refl
    at (Some c) = refl

unwrap_or-map : {X Y : Type 0} (f : X → Y) (o : Option X) (d : X) → unwrap_or (option_map f o) (f d) ≡ f (unwrap_or o d)
unwrap_or-map f None d = refl
unwrap_or-map f (Some x) d = refl

cond-map : {X Y : Type 0} (f : X → Y) (b : Bool) (x y : X) → cond b (f x) (f y) ≡ f (cond b x y)
cond-map f true x y = refl
cond-map f false x y = refl

pub dispatched-resolved : (offsets : List ℕ) (t : Arms) (x : Content) → dispatched (resolved offsets t) x ≡ offset_at offsets (dispatched t x)
dispatched-resolved offsets t x =
    rw (
      by_cases-resolved offsets t.cases x,
      by_ranges-resolved offsets t.ranges x,
      unwrap_or-map (offset_at offsets) (by_ranges t.ranges x) t.otherwise,
      unwrap_or-map (offset_at offsets)
          (by_cases t.cases x) (unwrap_or (by_ranges t.ranges x) t.otherwise),
    )
    (cond-map (offset_at offsets) (hashable x) _ t.otherwise)

pub dispatched_offset : (offsets : List ℕ) (t : Arms) (x : Content) → AreWithin (length offsets) t → slice_get offsets (dispatched t x) ≡ Some (dispatched (resolved offsets t) x)
dispatched_offset offsets t x fits =
    let inside : dispatched t x < length offsets = All-contains (λ target. target < length offsets) (arm_targets t) (dispatched t x) fits (dispatched_among t x) in
    slice_get-get_or offsets (dispatched t x) (dispatched t x) inside ∙ ap (λ (o : ℕ). Some o) (sym (dispatched-resolved offsets t x))
