-- A form is flat exactly where some pools have it.
use denote.RawPtr.{null_ptr}
use Rattle.std.proofs.Common.{◌≡◌, ℕ, pos, zero, suc, ◌+◌, ◌-◌, ◌<◌, ◌^◌, ◌↔◌, Bool, true, false, IsTrue, MatchBool, List, [], ◌∷◌, ◌++◌, Option, Some, Vec, length, map, take, drop, refl, subst, sym, ap, ◌∙◌, arith}
use Rattle.std.specs.Prelude.{sum_by}
use Rattle.std.specs.Bool.{OnTrue}
use Rattle.std.specs.List.{All, AllZip, flat_map}
use Rattle.std.specs.List.Sorted.{IsPermutation}
use Rattle.std.specs.declared.alloc.Global.{Global}
use Rattle.std.proofs.lemmas.List.{length-append, length-drop, length-map, length-take-le, take-append-drop}
use Rattle.std.proofs.lemmas.List.Concat.{flat_map-cons}
use Rattle.std.proofs.lemmas.List.Elements.{All-append, All-drop, All-take}
use Rattle.std.proofs.lemmas.List.Sorted.{IsPermutation-refl, length_permutation}
use Rattle.std.proofs.lemmas.List.Sums.{sum_by-cons}
use Rattle.grain_pools.specs.Dispatch.{Arms, Case}
use Rattle.grain_base.specs.declared.value.Dynamic.TheVariants as values
use Rattle.grain_pools.specs.declared.chain.Chain.{Chain}
use Rattle.grain_pools.specs.declared.chain.Step.{Step}
use Rattle.grain_pools.specs.declared.switch.SwitchRange.{SwitchRange}
use Rattle.grain_flat.specs.Flat.{AreChains, AreSwitches, IsAskedRow, IsChainRow, IsFlat, IsStepRow, Pooled, asked_row, case_row, case_rows, chain_row, arm_range_targets, step_row, step_rows, switch_row}
use Rattle.grain_flat.specs.declared.records.CCase.{CCase}
use Rattle.grain_flat.specs.declared.records.CChain.{CChain}
use Rattle.grain_flat.specs.declared.records.CConstant.{CConstant}
use Rattle.grain_flat.specs.declared.records.CPools.{CPools}
use Rattle.grain_flat.specs.declared.records.CStep.{CStep}
use Rattle.grain_flat.specs.declared.records.CSwitch.{CSwitch}

-- what holds of all images of a list
images : {X Y : Type 0} (f : X → Y) (P : Y → Type 0) → ((x : X) → P (f x)) → (xs : List X) → All P (map f xs)
images f P each [] k d none = absurd (omega arith)
images f P each (x ∷ xs) zero d inside = each x
images f P each (x ∷ xs) (suc k) d inside = images f P each xs k d (omega arith)

-- the first of a list, and the rest of it
here : {X : Type 0} (P : X → Type 0) (x : X) (xs : List X) → All P (x ∷ xs) → P x
here P x xs h = h 0 x (omega arith)

rest : {X : Type 0} (P : X → Type 0) (x : X) (xs : List X) → All P (x ∷ xs) → All P xs
rest P x xs h k d inside = h (suc k) d (omega arith)

all_steps : (cs : List Chain) → All IsStepRow (flat_map step_rows cs)
all_steps [] = λ k d none. absurd (omega arith)
all_steps (c ∷ cs) =
    subst (All IsStepRow) (sym (flat_map-cons step_rows c cs))
    (All-append IsStepRow (step_rows c) (flat_map step_rows cs) (images step_row IsStepRow (λ s. record { step = s; is = refl }) c.steps.items) (all_steps cs))

counted_steps : (cs : List Chain) → sum_by (λ (r : CChain). r.steps) (map chain_row cs) ≡ length (flat_map step_rows cs)
counted_steps [] = refl
counted_steps (c ∷ cs) =
    sum_by-cons (λ (r : CChain). r.steps) (chain_row c) (map chain_row cs)
    ∙ ap (λ n. n + sum_by (λ (r : CChain). r.steps) (map chain_row cs)) (sym (length-map c.steps.items step_row))
    ∙ ap (λ n. length (step_rows c) + n) (counted_steps cs)
    ∙ sym (length-append (step_rows c) (flat_map step_rows cs))
    ∙ ap length (sym (flat_map-cons step_rows c cs))

counted_cases : (ts : List Arms) (ps : List (List CCase)) → AllZip (λ piece t. IsPermutation piece (case_rows t)) ps ts → sum_by (λ (r : CSwitch). r.cases) (map switch_row ts) ≡ length (flat_map (λ p. p) ps)
counted_cases [] [] h = refl
counted_cases [] (p ∷ ps) h = absurd h
counted_cases (t ∷ ts) [] h = absurd h
counted_cases (t ∷ ts) (p ∷ ps) h =
    sum_by-cons (λ (r : CSwitch). r.cases) (switch_row t) (map switch_row ts)
    ∙ ap (λ n. n + sum_by (λ (r : CSwitch). r.cases) (map switch_row ts)) (length_permutation p (case_rows t) h.0)
    ∙ ap (λ n. length p + n) (counted_cases ts ps h.1)
    ∙ sym (length-append p (flat_map (λ p. p) ps))
    ∙ ap length (sym (flat_map-cons (λ p. p) p ps))

counted_ranges : (ts : List Arms) → sum_by (λ (r : CSwitch). r.ranges) (map switch_row ts) ≡ length (flat_map arm_range_targets ts)
counted_ranges [] = refl
counted_ranges (t ∷ ts) =
    sum_by-cons (λ (r : CSwitch). r.ranges) (switch_row t) (map switch_row ts)
    ∙ ap (λ n. length (arm_range_targets t) + n) (counted_ranges ts)
    ∙ sym (length-append (arm_range_targets t) (flat_map arm_range_targets ts))
    ∙ ap length (sym (flat_map-cons arm_range_targets t ts))

pub is_flat : (p : CPools) → Pooled p → IsFlat p
is_flat p h = record {
  constants = subst (All IsAskedRow) (sym h.asked_are) (images asked_row IsAskedRow (λ o. record { asked = o; is = refl }) h.asked);
  names = h.names_are;
  chains = subst (All IsChainRow) (sym h.chains_are.rows_are) (images chain_row IsChainRow (λ c. record { root = c.root; tail = c.tail; root_is = refl; tail_is = refl }) h.chains);
  steps = subst (All IsStepRow) (sym h.chains_are.steps_are) (all_steps h.chains);
  step_counts = ap (sum_by (λ (r : CChain). r.steps)) h.chains_are.rows_are ∙ counted_steps h.chains ∙ ap length (sym h.chains_are.steps_are);
  case_counts = ap (sum_by (λ (r : CSwitch). r.cases)) h.switches_are.rows_are ∙ counted_cases h.switches h.switches_are.pieces h.switches_are.each ∙ ap length (sym h.switches_are.cases_are);
  range_counts = ap (sum_by (λ (r : CSwitch). r.ranges)) h.switches_are.rows_are ∙ counted_ranges h.switches ∙ ap length (sym h.switches_are.ranges_are);
}

-- what constants ask, by their rows
asked_of : (rows : List CConstant) → All IsAskedRow rows → (asked : List (Option ℕ)) × (rows ≡ map asked_row asked)
asked_of [] h = ([], refl)
asked_of (row ∷ rows) h =
    let one = here IsAskedRow row rows h in
    let others = asked_of rows (rest IsAskedRow row rows h) in
    let own : row ≡ asked_row one.asked = sym one.is in
    (one.asked ∷ others.0, cc (own, others.1))

-- steps, by their rows
steps_of : (rows : List CStep) → All IsStepRow rows → (steps : List Step) × (rows ≡ map step_row steps)
steps_of [] h = ([], refl)
steps_of (row ∷ rows) h =
    let one = here IsStepRow row rows h in
    let others = steps_of rows (rest IsStepRow row rows h) in
    let own : row ≡ step_row one.step = sym one.is in
    (one.step ∷ others.0, cc (own, others.1))

-- a vector of these elements
abbrev pub vector : {A : Type 0} (xs : List A) → length xs < 2 ^ 63 → Vec A Global
vector xs small = record { ptr = null_ptr; len = length xs; cap = length xs; alloc = record { memory = record { seal = tt } }; items = xs; ok = (refl, omega arith); small = small }

-- a chain with this row and these steps
pub record HasRows (row : CChain) (given : List CStep) : Type 0 where
  pub chain : Chain
  pub row_is : row ≡ chain_row chain
  pub steps_are : given ≡ step_rows chain

chain_of : (row : CChain) (given : List CStep) → IsChainRow row → All IsStepRow given → length given ≡ row.steps → length given < 2 ^ 63 → HasRows row given
chain_of row given known steps long small =
    let found = steps_of given steps in
    let same : length found.0 ≡ length given = sym (length-map found.0 step_row) ∙ ap length (sym found.1) in
    record {
      chain = record { root = known.root; steps = vector found.0 (omega arith); tail = known.tail; operands = row.operands };
      row_is = sym (λ k. record {
        root = (known.root_is k).0;
        root_name = (known.root_is k).1;
        steps = (same ∙ long) k;
        tail = (known.tail_is k).0;
        op = (known.tail_is k).1;
        operands = row.operands;
        slot = (known.root_is k).2;
      });
      steps_are = found.1;
    }

one_more_chain : (row : CChain) (rows : List CChain) (own more : List CStep) (c : Chain) (cs : List Chain) → row ≡ chain_row c → own ≡ step_rows c → AreChains rows more cs
    → AreChains (row ∷ rows) (own ++ more) (c ∷ cs)
one_more_chain row rows own more c cs row_is own_is others = record {
  rows_are = cc (row_is, others.rows_are);
  steps_are = ap (λ xs. xs ++ more) own_is ∙ ap (λ xs. step_rows c ++ xs) others.steps_are ∙ sym (flat_map-cons step_rows c cs);
}

nothing_left : {X : Type 0} (xs : List X) → 0 ≡ length xs → xs ≡ []
nothing_left [] none = refl
nothing_left (x ∷ xs) none = absurd (omega arith)

-- chains with these rows and these steps
chains_of : (rows : List CChain) (given : List CStep) → All IsChainRow rows → All IsStepRow given → sum_by (λ (r : CChain). r.steps) rows ≡ length given → length given < 2 ^ 63
    → (cs : List Chain) × AreChains rows given cs
chains_of [] given known steps long small = ([], record { rows_are = refl; steps_are = nothing_left given long })
chains_of (row ∷ rows) given known steps long small =
    let counted : row.steps + sum_by (λ (r : CChain). r.steps) rows ≡ length given = sym (sum_by-cons (λ (r : CChain). r.steps) row rows) ∙ long in
    let own = take row.steps given in
    let more = drop row.steps given in
    let own_long : length own ≡ row.steps = length-take-le row.steps given (omega arith) in
    let more_long : length more ≡ length given - row.steps = length-drop row.steps given in
    let one = chain_of row own (here IsChainRow row rows known) (All-take IsStepRow row.steps given steps) own_long (omega arith) in
    let others = chains_of rows more (rest IsChainRow row rows known) (All-drop IsStepRow row.steps given steps) (omega arith) (omega arith) in
    (one.chain ∷ others.0, subst (λ xs. AreChains (row ∷ rows) xs (one.chain ∷ others.0)) (take-append-drop row.steps given) (one_more_chain row rows own more one.chain others.0 one.row_is one.steps_are others.1))

-- a case with this row, of any value
abbrev pub case_of : CCase → Case
case_of c = (values.Unit, (c.target, c.constant))

-- a switch with this row, these cases and these ranges
abbrev pub arms_of : CSwitch → List CCase → List ℕ → Arms
arms_of row cases ranges = record {
  cases = Some (map case_of cases);
  ranges = map (λ n. record { from = pos 0; to = pos 0; inclusive = false; target = n }) ranges;
  otherwise = row.otherwise;
}

cases_kept : (cases : List CCase) → map case_row (map case_of cases) ≡ cases
cases_kept [] = refl
cases_kept (c ∷ cs) = ap (λ xs. c ∷ xs) (cases_kept cs)

pub ranges_kept : (ranges : List ℕ) → map (λ (r : SwitchRange). r.target) (map (λ n. record { from = pos 0; to = pos 0; inclusive = false; target = n }) ranges) ≡ ranges
ranges_kept [] = refl
ranges_kept (n ∷ ns) = ap (λ xs. n ∷ xs) (ranges_kept ns)

one_more_switch : (row : CSwitch) (rows : List CSwitch) (own more : List CCase) (near far : List ℕ) (ts : List Arms) → length own ≡ row.cases → length near ≡ row.ranges → AreSwitches rows more far ts
    → AreSwitches (row ∷ rows) (own ++ more) (near ++ far) (arms_of row own near ∷ ts)
one_more_switch row rows own more near far ts own_long near_long others =
    let cases : length (case_rows (arms_of row own near)) ≡ row.cases = ap length (cases_kept own) ∙ own_long in
    let ranges : length (arm_range_targets (arms_of row own near)) ≡ row.ranges = ap length (ranges_kept near) ∙ near_long in
    let row_is : switch_row (arms_of row own near) ≡ row = λ k. record { cases = cases k; ranges = ranges k; otherwise = row.otherwise } in
    record {
      rows_are = cc (row_is, others.rows_are);
      pieces = own ∷ others.pieces;
      cases_are = ap (λ xs. own ++ xs) others.cases_are ∙ sym (flat_map-cons (λ p. p) own others.pieces);
      each = (subst (λ xs. IsPermutation own xs) (sym (cases_kept own)) (IsPermutation-refl own), others.each);
      ranges_are = ap (λ xs. near ++ xs) others.ranges_are ∙ ap (λ xs. xs ++ flat_map arm_range_targets ts) (sym (ranges_kept near)) ∙ sym (flat_map-cons arm_range_targets (arms_of row own near) ts);
    }

-- switches with these rows, cases and ranges, the cases in their order
abbrev pub switches_by_rows : List CSwitch → List CCase → List ℕ → List Arms
switches_by_rows [] cases ranges = []
switches_by_rows (row ∷ rows) cases ranges = arms_of row (take row.cases cases) (take row.ranges ranges) ∷ switches_by_rows rows (drop row.cases cases) (drop row.ranges ranges)

pub are_by_rows : (rows : List CSwitch) (cases : List CCase) (ranges : List ℕ) → sum_by (λ (r : CSwitch). r.cases) rows ≡ length cases
    → sum_by (λ (r : CSwitch). r.ranges) rows ≡ length ranges → AreSwitches rows cases ranges (switches_by_rows rows cases ranges)
are_by_rows [] cases ranges c r = record { rows_are = refl; pieces = []; cases_are = nothing_left cases c; each = tt; ranges_are = nothing_left ranges r }
are_by_rows (row ∷ rows) cases ranges c r =
    let counted : row.cases + sum_by (λ (r : CSwitch). r.cases) rows ≡ length cases = sym (sum_by-cons (λ (r : CSwitch). r.cases) row rows) ∙ c in
    let reaching : row.ranges + sum_by (λ (r : CSwitch). r.ranges) rows ≡ length ranges = sym (sum_by-cons (λ (r : CSwitch). r.ranges) row rows) ∙ r in
    let own = take row.cases cases in
    let more = drop row.cases cases in
    let near = take row.ranges ranges in
    let far = drop row.ranges ranges in
    let own_long : length own ≡ row.cases = length-take-le row.cases cases (omega arith) in
    let near_long : length near ≡ row.ranges = length-take-le row.ranges ranges (omega arith) in
    let more_long : length more ≡ length cases - row.cases = length-drop row.cases cases in
    let far_long : length far ≡ length ranges - row.ranges = length-drop row.ranges ranges in
    let others = are_by_rows rows more far (omega arith) (omega arith) in
    let all = switches_by_rows (row ∷ rows) cases ranges in
    subst (λ xs. AreSwitches (row ∷ rows) xs ranges all) (take-append-drop row.cases cases)
    (subst (λ xs. AreSwitches (row ∷ rows) (own ++ more) xs all) (take-append-drop row.ranges ranges) (one_more_switch row rows own more near far (switches_by_rows rows more far) own_long near_long others))

pub pooled : (p : CPools) → IsFlat p → length p.steps.now < 2 ^ 63 → Pooled p
pooled p flat small =
    let asked = asked_of p.constants.now flat.constants in
    let chains = chains_of p.chains.now p.steps.now flat.chains flat.steps flat.step_counts small in
    record {
      asked = asked.0;
      chains = chains.0;
      switches = switches_by_rows p.switches.now p.cases.now p.ranges.now;
      asked_are = asked.1;
      names_are = flat.names;
      chains_are = chains.1;
      switches_are = are_by_rows p.switches.now p.cases.now p.ranges.now flat.case_counts flat.range_counts;
    }

-- the test of the rules tells whether there are such pools
pub tested : (b : Bool) (p : CPools) → IsTrue b ↔ IsFlat p → OnTrue b (length p.steps.now < 2 ^ 63) → MatchBool b (Pooled p) (Pooled p → ⊥)
tested true p rules small = pooled p (rules.0 refl) small
tested false p rules small = λ h. let yes = rules.1 (is_flat p h) in cc
