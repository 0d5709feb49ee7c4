use Rattle.std.proofs.Common.{◌≡◌, ◌∙◌, sym, ap, subst, map, length, None, Ok}
use Rattle.std.proofs.lemmas.List.{length-map}
use Rattle.grain_format.specs.Form.{value_form, forms}
use Rattle.grain_format.specs.Cases.{case_view, Gathered}
use Rattle.grain_format.specs.Switches.{KeyedCases, case_flaw}
use Rattle.grain_format.proofs.CaseTests.{all_read, gathered_are, tested}
use Rattle.grain_format.proofs.cases.read_cases.Goals as goal

pub returns-in-Some-2 : goal.returns-in-Some-2
returns-in-Some-2 c =
    let constants = c.args.constants.now in
    let old = c.args.cursor.now.left.now in
    let rest = c.read.new.cursor.left.now in
    let cs = map case_view c.in_ok-cases.cases.items in
    let passed : None ≡ case_flaw (length (forms constants)) c.args.most cs = rw (length-map constants value_form) (rw c.deref.ensures.value at c.in_default.ensures) in
    let t = tested (forms constants) c.args.most old rest cs passed in
    let g = subst (λ o. Gathered constants cs o) c.in-Some-2.is (rw c.deref-2.ensures.value at c.in_ok-gathered.ensures) in
    all_read (forms constants) c.args.most old rest cs c.in_ok-cases.ensures t g.0 ∙ ap (λ (k : KeyedCases). Ok (k, rest)) (sym (gathered_are constants cs c.in-Some-2.gathered t.ascend g))
