-- Facts about switches follow from their rows, cases and ranges.
use Rattle.std.proofs.Common.{◌≡◌, ℕ, List, [], ◌∷◌, ◌++◌, map, take, drop, refl, sym}
use Rattle.grain_pools.specs.Dispatch.{Case, arm_targets}
use Rattle.grain_flat.specs.declared.records.CCase.{CCase}
use Rattle.grain_flat.specs.declared.records.CSwitch.{CSwitch}
use Rattle.grain_flat.specs.Flat.{arm_constants}
use Rattle.grain_flat.specs.RowFacts.{cases_by_rows, leads_by_rows, switch_leads}
use Rattle.grain_rules.proofs.Members.{map_by_rows}
use Rattle.grain_flat.proofs.Flatness.{arms_of, case_of, ranges_kept, switches_by_rows}

pub cases_are_by_rows : (rows : List CSwitch) (cases : List CCase) (ranges : List ℕ) → cases_by_rows rows cases ≡ map arm_constants (switches_by_rows rows cases ranges)
cases_are_by_rows [] cases ranges = refl
cases_are_by_rows (row ∷ rows) cases ranges =
    let own = map_by_rows (λ (c : CCase). c.constant) case_of (λ (c : Case). c.1.1) (λ c. refl) (take row.cases cases) in
    let rest = cases_are_by_rows rows (drop row.cases cases) (drop row.ranges ranges) in
    λ k. own k ∷ rest k

led : (row : CSwitch) (cases : List CCase) (ranges : List ℕ) → switch_leads row cases ranges ≡ arm_targets (arms_of row cases ranges)
led row cases ranges =
    let own = map_by_rows (λ (c : CCase). c.target) case_of (λ (c : Case). c.1.0) (λ c. refl) cases in
    λ k. own k ++ sym (ranges_kept ranges) k ++ row.otherwise ∷ []

pub leads_are_by_rows : (rows : List CSwitch) (cases : List CCase) (ranges : List ℕ) → leads_by_rows rows cases ranges ≡ map arm_targets (switches_by_rows rows cases ranges)
leads_are_by_rows [] cases ranges = refl
leads_are_by_rows (row ∷ rows) cases ranges =
    let own = led row (take row.cases cases) (take row.ranges ranges) in
    let rest = leads_are_by_rows rows (drop row.cases cases) (drop row.ranges ranges) in
    λ k. own k ∷ rest k
