use Rattle.std.proofs.Common.{◌∙◌, ap}
use Rattle.grain_pools.specs.LookedUp.{in_order}
use Rattle.grain_pools.proofs.CaseOrder.{sorted_in_order}
use Rattle.grain_pools.proofs.text.switch.ordered_cases.Goals as goal

pub returns : goal.returns
returns c =
    sorted_in_order c.in_ok-cases.cases.items c.sort_unstable.new.self.items c.sort_unstable.ensures.permutation c.sort_unstable.ensures.sorted
    ∙ ap in_order c.in_ok-cases.ensures
