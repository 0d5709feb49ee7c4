use Rattle.std.proofs.Common.{[], ◌∷◌, refl}
use Rattle.grain_machine.proofs.frame.Frame.quick_give.Goals as goal

pub returns-in-Some-clause-given : goal.returns-in-Some-clause-given
returns-in-Some-clause-given g c = (c.in-Some.value ∷ [], refl, c.replace_few.ensures)
