use Rattle.std.proofs.Common.{◌≡◌, sym, subst, arith}
use Rattle.grain_builder.specs.Assembled.{workings_of}
use Rattle.grain_builder.specs.Sound.{IsBased, Workings}
use Rattle.grain_builder.specs.Unfinished.{Level, Unfinished}
use Rattle.std.proofs.Common.{false}
use Rattle.grain_builder.proofs.Marks.{elsewhere}
use Rattle.grain_builder.proofs.assembler.Assembler.resume.Goals as goal

pub invariant_of-self : goal.invariant_of-self
invariant_of-self c =
    let k : Workings = workings_of c.self.inside in
    let loose : k.fixed ≡ false = subst (λ (w : Unfinished). w.fixed ≡ false) (sym c.self.view_is) c.requires.loose in
    let home : c.args.level.home ≡ k.level.home = subst (λ (w : Unfinished). c.args.level.home ≡ w.level.home) (sym c.self.view_is) c.requires.home in
    let based : IsBased c.args.level = subst (λ (l : Level). IsBased l) c.level.view_is c.level.invariant in
    elsewhere k c.self.invariant loose c.args.operands c.args.level home (omega arith) based
