use Rattle.std.proofs.Common.{◌≡◌, subst}
use Rattle.grain.specs.Program.{Program}
use Rattle.grain.specs.Tightened.{undeclared}
use Rattle.grain.proofs.LeastRedeclared.{least_again}
use Rattle.rhai_compile.proofs.building.verified.Goals as goal

pub returns-in-Ok-clause-least : goal.returns-in-Ok-clause-least
returns-in-Ok-clause-least c =
    let program = c.declare_least_caps.new.self in
    least_again program c.tight.result.program (subst (λ (p : Program). undeclared c.tight.result.program ≡ undeclared p) c.in-Ok.ensures.program c.tight.ensures.tightened.rest) c.declare_least_caps.ensures.least
