use Rattle.std.proofs.Common.{refl, subst, sym}
use Rattle.grain.specs.Program.{Program, input_of}
use Rattle.grain_needs.proofs.LeastCapabilities.{accepted_under, least_alike}
use Rattle.grain_needs.specs.Capabilities.{AreLeast}
use Rattle.grain_rules.specs.Accepted.{IsAccepted}
use Rattle.grain.proofs.program.Program.declare_least_caps.Goals as goal

pub returns-clause-least : goal.returns-clause-least
returns-clause-least c =
    let new = c.least_caps-self-inside.result in
    let least : Program → Type 0 = λ p. AreLeast (input_of (record p { caps = new })) new.0 in
    subst least (sym c.self.view_is)
    (least_alike (input_of c.args.self.now) (input_of (record c.args.self.now { caps = new })) new.0 refl refl refl (λ some. some) (λ some. some) c.least_caps-self-inside.ensures)

pub returns-clause-accepted : goal.returns-clause-accepted
returns-clause-accepted c = λ accepted.
    let new = c.least_caps-self-inside.result in
    let passes : Program → Type 0 = λ p. IsAccepted (input_of (record p { caps = new })) in
    subst passes (sym c.self.view_is) (accepted_under (input_of c.args.self.now) new.0 accepted c.least_caps-self-inside.ensures.suffice)
