use Rattle.std.proofs.Common.{subst}
use Rattle.grain_format.specs.Cases.{IsListed}
use Rattle.grain_format.proofs.CaseContents.{in_order}
use Rattle.grain_format.proofs.cases.list_in_order.Goals as goal

pub returns : goal.returns
returns c =
    let listed = subst (λ o. IsListed c.args.constants.now c.args.cases.now o) c.in-Some.is c.in_ok-listed.ensures.listed in
    let p = in_order c.args.constants.now c.args.cases.now c.in-Some.listed.items c.sort.new.cases.items listed.0 listed.1 c.in_ok-listed.ensures.unique c.sort.ensures.moved c.sort.ensures.rises in
    (listed.0, p.0, p.1)
