use Rattle.std.proofs.Common.{◌≡◌, ◌+◌, List, take, subst, sym, arith}
use Rattle.std.proofs.lemmas.List.Sums.{sum_by_more}
use Rattle.std.proofs.lemmas.List.{take_all}
use Rattle.grain_flat.specs.PoolsFlaws.{ArmsFlaw, HaveArms, all_cases, all_ranges, switch_overruns, case_left, range_left}
use Rattle.grain_flat.specs.declared.records.CSwitch.{CSwitch}
use Rattle.grain_flat.proofs.flat.arms_flaw.Goals as goal
use Rattle.grain_flat.proofs.flat.arms_flaw.Goals.{then-cases_left-more_cases-via-then-cases_left-more_cases, then-cases_left-more_cases-via-else-cases_left-more_cases+then-ranges_left-more_ranges}

abbrev none : CSwitch
none = record { cases = 0; ranges = 0; otherwise = 0 }

pub returns-then-cases_left-more_cases-clause-some : goal.returns-then-cases_left-more_cases-clause-some
returns-then-cases_left-more_cases-clause-some c =
    let rows = c.args.rows.now in
    let i = c.loop-index.index in
    let cases = c.loop-index.invariant.cases in
    let ranges = c.loop-index.invariant.ranges in
    let more_cases = sum_by_more (λ (r : CSwitch). r.cases) rows i none c.loop-index-test.true in
    let more_ranges = sum_by_more (λ (r : CSwitch). r.ranges) rows i none c.loop-index-test.true in
    let overruns : HaveArms (take (i + 1) rows) c.args.cases c.args.ranges → ⊥ = λ h. elim c.then-cases_left-more_cases.branch as (λ _. ⊥) [
      | then-cases_left-more_cases-via-then-cases_left-more_cases w ↦ let under = w.if-cases_left-more_cases.true in let most = h.0 in omega (arith, cases, more_cases, under, most)
      | then-cases_left-more_cases-via-else-cases_left-more_cases+then-ranges_left-more_ranges w ↦ let under = w.if-ranges_left-more_ranges.true in let most = h.1 in omega (arith, ranges, more_ranges, under, most)
    ] in
    subst (ArmsFlaw rows c.args.cases c.args.ranges) (sym c.flaw_at.ensures) (switch_overruns {index = i} c.loop-index-test.true (omega (arith, cases), omega (arith, ranges)) overruns)

pub returns-then-cases_left-gt0-clause-some : goal.returns-then-cases_left-gt0-clause-some
returns-then-cases_left-gt0-clause-some c =
    let rows = c.args.rows.now in
    let whole : take c.loop-index.index rows ≡ rows = take_all c.loop-index.index rows c.loop-index-test.false in
    let left = c.if-cases_left-gt0.true in
    let all : all_cases rows + c.loop-index.cases_left ≡ c.args.cases = subst (λ (rs : List CSwitch). all_cases rs + c.loop-index.cases_left ≡ c.args.cases) whole c.loop-index.invariant.cases in
    subst (ArmsFlaw rows c.args.cases c.args.ranges) (sym c.flaw_at-then-cases_left-gt0.ensures) (case_left (omega arith) (omega arith))

pub returns-then-ranges_left-gt0-clause-some : goal.returns-then-ranges_left-gt0-clause-some
returns-then-ranges_left-gt0-clause-some c =
    let rows = c.args.rows.now in
    let whole : take c.loop-index.index rows ≡ rows = take_all c.loop-index.index rows c.loop-index-test.false in
    let none_left = c.if-cases_left-gt0.false in
    let left = c.if-ranges_left-gt0.true in
    let cases : all_cases rows + c.loop-index.cases_left ≡ c.args.cases = subst (λ (rs : List CSwitch). all_cases rs + c.loop-index.cases_left ≡ c.args.cases) whole c.loop-index.invariant.cases in
    let ranges : all_ranges rows + c.loop-index.ranges_left ≡ c.args.ranges = subst (λ (rs : List CSwitch). all_ranges rs + c.loop-index.ranges_left ≡ c.args.ranges) whole c.loop-index.invariant.ranges in
    subst (ArmsFlaw rows c.args.cases c.args.ranges) (sym c.flaw_at-then-ranges_left-gt0.ensures) (range_left (omega arith) (omega arith) (omega arith))
