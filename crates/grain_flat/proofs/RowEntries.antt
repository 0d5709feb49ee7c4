-- What is read of the rows is what is said of the pools.
use Rattle.std.proofs.Common.{◌≡◌, ℕ, zero, suc, ◌+◌, ◌-◌, ◌<◌, ◌≤◌, List, [], ◌∷◌, ◌++◌, Option, Some, None, get_or, length, map, take, drop, slice_get, option_map, refl, sym, ap, ◌∙◌, arith}
use Rattle.std.specs.Prelude.{zip}
use Rattle.std.specs.List.{Contains}
use Rattle.std.proofs.lemmas.List.{length-map}
use Rattle.std.proofs.lemmas.List.Elements.{Contains-append_right}
use Rattle.std.specs.Option.{unwrap_or}
use Rattle.std.proofs.lemmas.Option.{none-some, slice_get-map, slice_get_read, slice_get_within, unwrap_or-slice_get}
use Rattle.grain_rules.specs.Capabilities.{name_caps}
use Rattle.grain_pools.specs.Names.{first_flaw, names_in}
use Rattle.grain_pools.proofs.Tables.{length-starts_of, table_of}
use Rattle.grain_flat.specs.RowFacts.{part_begins, cases_by_rows, chain_by_rows, chains_by_rows, leads_by_rows, parts, switch_leads}
use Rattle.grain_flat.specs.RowTables.{AreTables}
use Rattle.grain_flat.specs.declared.records.CCase.{CCase}
use Rattle.grain_flat.specs.declared.records.CChain.{CChain}
use Rattle.grain_flat.specs.declared.records.CPools.{CPools}
use Rattle.grain_flat.specs.declared.records.CStep.{CStep}
use Rattle.grain_flat.specs.declared.records.CSwitch.{CSwitch}
use Rattle.grain_flat.specs.declared.row_reads.ArmsBegin.{ArmsBegin}
use Rattle.grain_flat.proofs.RowParts.{begins_long, pair_at, pair_past, pairs_long, part_at, part_within, parts_long}

-- how many steps, cases and ranges a row counts
abbrev pub steps_in : CChain → ℕ
steps_in row = row.steps

abbrev pub cases_in : CSwitch → ℕ
cases_in row = row.cases

abbrev pub ranges_in : CSwitch → ℕ
ranges_in row = row.ranges

-- a part of a list that begins there is this entry
pub record IsPart {X : Type 0} (xs : List X) (found : Option (List X)) (from count : ℕ) : Type 0 where
  pub within : from + count ≤ length xs
  pub part_is : found ≡ Some (take count (drop from xs))

-- there is a beginning for each chain and each switch
pub chain_begun : (p : CPools) (steps : List ℕ) (arms : List ArmsBegin) → AreTables p steps arms → (i : ℕ) (row : CChain) → slice_get p.chains.now i ≡ Some row → i < length steps
chain_begun p steps arms t i row there =
    let inside = slice_get_within p.chains.now i row there in
    omega (arith, inside, ap length t.steps_are, begins_long steps_in 0 p.chains.now)

pub arms_begun : (p : CPools) (steps : List ℕ) (arms : List ArmsBegin) → AreTables p steps arms → (i : ℕ) (row : CSwitch) → slice_get p.switches.now i ≡ Some row → i < length arms
arms_begun p steps arms t i row there =
    let inside = slice_get_within p.switches.now i row there in
    omega (arith, inside, length-map arms (λ (b : ArmsBegin). b.cases), ap length t.cases_are, begins_long cases_in 0 p.switches.now)

-- what is read of the beginnings is that of the switch
arms_at : (p : CPools) (steps : List ℕ) (arms : List ArmsBegin) → AreTables p steps arms → (i : ℕ) (row : CSwitch) (from : ArmsBegin) → slice_get p.switches.now i ≡ Some row → from ≡ get_or arms i from
    → slice_get arms i ≡ Some from
arms_at p steps arms t i row from there at = slice_get_read arms (length arms) i from refl (arms_begun p steps arms t i row there) at

-- the steps of a chain
pub steps_there : (p : CPools) (steps : List ℕ) (arms : List ArmsBegin) → AreTables p steps arms → (i : ℕ) (row : CChain) (from : ℕ) → slice_get p.chains.now i ≡ Some row → slice_get steps i ≡ Some from
    → IsPart p.steps.now (slice_get (parts steps_in p.chains.now p.steps.now) i) from row.steps
steps_there p steps arms t i row from there at =
    let begun : slice_get (part_begins steps_in 0 p.chains.now) i ≡ Some from = ap (λ ns. slice_get ns i) (sym t.steps_are) ∙ at in
    record {
      within = part_within steps_in p.steps.now p.chains.now 0 i row from there begun (omega (arith, t.flat.step_counts));
      part_is = part_at steps_in p.steps.now p.chains.now 0 i row from there begun;
    }

pub chain_there : (rows : List CChain) (steps own : List CStep) (i : ℕ) (row : CChain) → slice_get rows i ≡ Some row → slice_get (parts steps_in rows steps) i ≡ Some own
    → slice_get (chains_by_rows rows steps) i ≡ Some (chain_by_rows row own)
chain_there rows steps own i row there part =
    let as_chain = λ (c : CChain × List CStep). chain_by_rows c.0 c.1 in
    slice_get-map as_chain (zip rows (parts steps_in rows steps)) i ∙ ap (option_map as_chain) (pair_at rows (parts steps_in rows steps) i row own there part)

pub chain_past : (rows : List CChain) (steps : List CStep) (i : ℕ) → slice_get rows i ≡ None → slice_get (chains_by_rows rows steps) i ≡ None
chain_past rows steps i none =
    let as_chain = λ (c : CChain × List CStep). chain_by_rows c.0 c.1 in
    slice_get-map as_chain (zip rows (parts steps_in rows steps)) i ∙ ap (option_map as_chain) (pair_past rows (parts steps_in rows steps) i none)

pub names_long : (names starts : List ℕ) → first_flaw names starts ≡ None → length (map name_caps (names_in names starts)) ≡ length starts - 1
names_long names starts flawless =
    let long = ap length (table_of names starts flawless).starts_are in
    let more = length-starts_of 0 (names_in names starts) in
    omega (arith, long, more, length-map (names_in names starts) name_caps)

pub mapped_at : {A B : Type 0} (f : A → B) (xs : List A) (i : ℕ) (x : A) (d : B) → slice_get xs i ≡ Some x → get_or (map f xs) i d ≡ f x
mapped_at {B = B} f xs i x d there = sym (unwrap_or-slice_get (map f xs) i d) ∙ ap (λ (o : Option B). unwrap_or o d) (slice_get-map f xs i ∙ ap (option_map f) there)

-- past a list there is nothing
pub nothing_past : {A B : Type 0} (f : A → B) (xs : List A) (i : ℕ) (d : B) → slice_get xs i ≡ None → get_or (map f xs) i d ≡ d
nothing_past {B = B} f xs i d none = sym (unwrap_or-slice_get (map f xs) i d) ∙ ap (λ (o : Option B). unwrap_or o d) (slice_get-map f xs i ∙ ap (option_map f) none)

pub chains_long : (rows : List CChain) (steps : List CStep) → length (chains_by_rows rows steps) ≡ length rows
chains_long rows steps =
    length-map (zip rows (parts steps_in rows steps)) (λ (c : CChain × List CStep). chain_by_rows c.0 c.1) ∙ pairs_long rows (parts steps_in rows steps) (parts_long steps_in rows steps)

-- the cases and the ranges of a switch
pub cases_there : (p : CPools) (steps : List ℕ) (arms : List ArmsBegin) → AreTables p steps arms → (i : ℕ) (row : CSwitch) (from : ArmsBegin) → slice_get p.switches.now i ≡ Some row → from ≡ get_or arms i from
    → IsPart p.cases.now (slice_get (parts cases_in p.switches.now p.cases.now) i) from.cases row.cases
cases_there p steps arms t i row from there at =
    let begun : slice_get (part_begins cases_in 0 p.switches.now) i ≡ Some from.cases =
    ap (λ ns. slice_get ns i) (sym t.cases_are) ∙ slice_get-map (λ (b : ArmsBegin). b.cases) arms i ∙ ap (option_map (λ (b : ArmsBegin). b.cases)) (arms_at p steps arms t i row from there at)
    in record {
      within = part_within cases_in p.cases.now p.switches.now 0 i row from.cases there begun (omega (arith, t.flat.case_counts));
      part_is = part_at cases_in p.cases.now p.switches.now 0 i row from.cases there begun;
    }

pub ranges_there : (p : CPools) (steps : List ℕ) (arms : List ArmsBegin) → AreTables p steps arms → (i : ℕ) (row : CSwitch) (from : ArmsBegin) → slice_get p.switches.now i ≡ Some row → from ≡ get_or arms i from
    → IsPart p.ranges.now (slice_get (parts ranges_in p.switches.now p.ranges.now) i) from.ranges row.ranges
ranges_there p steps arms t i row from there at =
    let begun : slice_get (part_begins ranges_in 0 p.switches.now) i ≡ Some from.ranges =
    ap (λ ns. slice_get ns i) (sym t.ranges_are) ∙ slice_get-map (λ (b : ArmsBegin). b.ranges) arms i ∙ ap (option_map (λ (b : ArmsBegin). b.ranges)) (arms_at p steps arms t i row from there at)
    in record {
      within = part_within ranges_in p.ranges.now p.switches.now 0 i row from.ranges there begun (omega (arith, t.flat.range_counts));
      part_is = part_at ranges_in p.ranges.now p.switches.now 0 i row from.ranges there begun;
    }

-- where a switch leads
abbrev led : CSwitch × (List CCase × List ℕ) → List ℕ
led s = switch_leads s.0 s.1.0 s.1.1

pub leads_there : (rows : List CSwitch) (cases own : List CCase) (ranges near : List ℕ) (i : ℕ) (row : CSwitch) → slice_get rows i ≡ Some row → slice_get (parts cases_in rows cases) i ≡ Some own
    → slice_get (parts ranges_in rows ranges) i ≡ Some near → slice_get (leads_by_rows rows cases ranges) i ≡ Some (switch_leads row own near)
leads_there rows cases own ranges near i row there part reach =
    let arms = zip (parts cases_in rows cases) (parts ranges_in rows ranges) in
    slice_get-map led (zip rows arms) i ∙ ap (option_map led) (pair_at rows arms i row (own, near) there (pair_at (parts cases_in rows cases) (parts ranges_in rows ranges) i own near part reach))

pub leads_past : (rows : List CSwitch) (cases : List CCase) (ranges : List ℕ) (i : ℕ) → slice_get rows i ≡ None → slice_get (leads_by_rows rows cases ranges) i ≡ None
leads_past rows cases ranges i none =
    let arms = zip (parts cases_in rows cases) (parts ranges_in rows ranges) in
    slice_get-map led (zip rows arms) i ∙ ap (option_map led) (pair_past rows arms i none)

pub leads_long : (rows : List CSwitch) (cases : List CCase) (ranges : List ℕ) → length (leads_by_rows rows cases ranges) ≡ length rows
leads_long rows cases ranges =
    let arms = zip (parts cases_in rows cases) (parts ranges_in rows ranges) in
    let long = parts_long cases_in rows cases in
    let pairs = pairs_long (parts cases_in rows cases) (parts ranges_in rows ranges) (parts_long ranges_in rows ranges ∙ sym long) in
    length-map (zip rows arms) led ∙ pairs_long rows arms (pairs ∙ long)

pub cases_long : (rows : List CSwitch) (cases : List CCase) → length (cases_by_rows rows cases) ≡ length rows
cases_long rows cases = length-map (parts cases_in rows cases) (map (λ (c : CCase). c.constant)) ∙ parts_long cases_in rows cases

-- where a switch leads else is one of its targets
pub otherwise_led : (rows : List CSwitch) (cases : List CCase) (ranges : List ℕ) (i : ℕ) (row : CSwitch) → slice_get rows i ≡ Some row → Contains (get_or (leads_by_rows rows cases ranges) i []) row.otherwise
otherwise_led [] cases ranges i row there = absurd (none-some row there)
otherwise_led (r ∷ rows) cases ranges zero row there =
    let same : r ≡ row = cc there in
    rw (← same) (Contains-append_right (map (λ (c : CCase). c.target) (take r.cases cases) ++ take r.ranges ranges) (r.otherwise ∷ []) r.otherwise (0, omega arith, refl))
otherwise_led (r ∷ rows) cases ranges (suc i) row there = otherwise_led rows (drop r.cases cases) (drop r.ranges ranges) i row there
