use Rattle.std.proofs.Common.{refl}
use Rattle.grain_bytecode.proofs.positions.place.Goals as goal

pub returns : goal.returns
returns c =
    let is = c.in-Some.ensures in
    rw (← is) (c.site_to_position.result, c.site_to_position.ensures, refl, refl)
