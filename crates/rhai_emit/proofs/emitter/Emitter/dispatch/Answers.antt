use Rattle.std.proofs.Common.{◌≡◌, Some, subst, sym}
use Rattle.std.specs.Prelude.{slice_get}
use Rattle.grain_builder.specs.Unfinished.{Unfinished, spot}
use Rattle.rhai_emit.proofs.ArmLabels.{lead_to_arms}
use Rattle.rhai_emit.proofs.emitter.Emitter.dispatch.Goals as goal

pub switch-requires-clause-there : goal.switch-requires-clause-there
switch-requires-clause-there c = λ l has.
    subst (λ (w : Unfinished). slice_get w.labels l ≡ Some (spot w.operands w.level)) (sym c.drafted.ensures.code)
    (lead_to_arms c.args.labels.now c.args.self.now.code.operands c.args.self.now.code c.in_ok-table.field-0.targets c.requires.arms c.in_ok-table.ensures.within l has)
