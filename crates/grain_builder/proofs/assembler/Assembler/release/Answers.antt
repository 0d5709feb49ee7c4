use Rattle.std.proofs.Common.{sym, subst}
use Rattle.grain_builder.specs.Assembled.{workings_of}
use Rattle.grain_builder.specs.Sound.{IsBased, Workings}
use Rattle.grain_builder.specs.Unfinished.{IsSameButFloor, Level, Unfinished}
use Rattle.grain_builder.proofs.Marks.{other_floor}
use Rattle.grain_builder.proofs.assembler.Assembler.release.Goals as goal

pub invariant_of-self : goal.invariant_of-self
invariant_of-self c =
    let k : Workings = workings_of c.self.inside in
    let same : IsSameButFloor c.args.level k.level = subst (λ (w : Unfinished). IsSameButFloor c.args.level w.level) (sym c.self.view_is) c.requires in
    let based : IsBased c.args.level = subst (λ (l : Level). IsBased l) c.level.view_is c.level.invariant in
    other_floor k c.self.invariant c.args.level same based
