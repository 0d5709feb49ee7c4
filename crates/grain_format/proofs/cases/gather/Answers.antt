use Rattle.std.proofs.Common.{◌≡◌, ◌+◌, ◌≤◌, List, map, take, drop, get_or, length, sym, ap, subst, ◌∙◌, refl, arith, take_all}
use Rattle.std.specs.Prelude.{Some, None, slice_get, is_some}
use Rattle.std.specs.HashMap.{PutsEntry}
use Rattle.std.proofs.lemmas.List.{drop_all}
use Rattle.std.proofs.lemmas.Option.{slice_get_read}
use Rattle.grain_format.specs.Cases.{case_view, same_keys}
use Rattle.grain_format.specs.declared.cases.Case.{Case as CaseField}
use Rattle.grain_format.proofs.GatheredCases.{next_left, next_taken, split_at, step, stop, finished, there_at, none_is}
use Rattle.grain_format.proofs.cases.gather.Goals as goal

-- what stands where there is no case
abbrev none : CaseField
none = record { constant = 0; target = 0 }

pub returns-in_default : goal.returns-in_default
returns-in_default c =
    let cases = c.args.cases.now in
    let i = c.loop-case.case-index in
    let past : length c.args.constants.now ≤ (get_or cases i none).constant = c.in_default.ensures.lookup.3 in
    absurd (let lt = there_at (length c.args.constants.now) (map case_view (take i cases)) _ (map case_view (drop (i + 1) cases)) (rw (split_at case_view cases i none c.loop-case-test.true) at c.requires) in omega arith)

pub returns-then-is_some : goal.returns-then-is_some
returns-then-is_some c =
    let cases = c.args.cases.now in
    let i = c.loop-case.case-index in
    let found : slice_get c.args.constants.now (get_or cases i none).constant ≡ Some c.in-Some.constant.now = slice_get_read c.args.constants.now _ _ _ refl c.in-Some.ensures.lookup.3.0 (c.in-Some.ensures.lookup.3.1 _) in
    let so_far = rw (next_left case_view cases i none c.loop-case-test.true) at c.loop-case.invariant in
    stop c.args.constants.now (map case_view cases) (map case_view (take i cases)) (map case_view (drop (i + 1) cases)) _ c.loop-case.gathered c.in_ok-key.key c.in-Some.constant.now found c.in_ok-key.ensures so_far
    (ap is_some (sym c.in_ok-old.ensures.old) ∙ sym c.is_some.ensures ∙ c.if-is_some.true)

pub loop-case-preserved : goal.loop-case-preserved
loop-case-preserved c =
    let cases = c.args.cases.now in
    let i = c.loop-case.case-index in
    let found : slice_get c.args.constants.now (get_or cases i none).constant ≡ Some c.in-Some.constant.now = slice_get_read c.args.constants.now _ _ _ refl c.in-Some.ensures.lookup.3.0 (c.in-Some.ensures.lookup.3.1 _) in
    let so_far = rw (next_left case_view cases i none c.loop-case-test.true) at c.loop-case.invariant in
    let old : c.in_ok-old.old ≡ None = none_is c.in_ok-old.old (sym c.is_some.ensures ∙ c.if-is_some.false) in
    let puts = subst (λ o. PutsEntry same_keys c.loop-case.gathered c.insert.new.self c.in_ok-key.key ((get_or cases i none).target, (get_or cases i none).constant) o) old c.in_ok-old.ensures.entries in
    rw (next_taken case_view cases i none c.loop-case-test.true)
    (step c.args.constants.now (map case_view cases) (map case_view (take i cases)) (map case_view (drop (i + 1) cases)) _ c.loop-case.gathered c.insert.new.self c.in_ok-key.key c.in-Some.constant.now found c.in_ok-key.ensures so_far (sym c.in_ok-old.ensures.old ∙ old) puts c.in_ok-old.ensures.updates)

pub returns : goal.returns
returns c =
    let cases = c.args.cases.now in
    let i = c.loop-case.case-index in
    let all : take i cases ≡ cases = take_all i cases c.loop-case-test.false in
    finished c.args.constants.now (map case_view cases) (map case_view (take i cases)) c.loop-case.gathered (ap (λ (xs : List CaseField). map case_view xs) all) (rw (drop_all i cases c.loop-case-test.false) at c.loop-case.invariant)
