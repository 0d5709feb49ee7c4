use Rattle.std.proofs.Common.{ℕ, subst, sym, rules}
use Rattle.grain_builder.specs.Unfinished.{StaysIn}
use Rattle.rhai_emit.specs.Switches.{AreArms}
use Rattle.rhai_emit.proofs.ArmLabels.{arms_after}
use Rattle.rhai_compile.proofs.coder.Coder.arm.Goals as goal

pub condition-requires-clause-arms : goal.condition-requires-clause-arms
condition-requires-clause-arms g c =
    let labels : StaysIn c.args.emitter.now.code.labels c.bind.new.self.labels = search rules in
    let outers : StaysIn c.args.emitter.now.code.outers c.bind.new.self.outers = search rules in
    subst (λ (n : ℕ). AreArms c.args.labels.now n c.bind.new.self) (sym c.in_ok-bind.ensures.operands)
    (arms_after c.args.labels.now c.args.emitter.now.code.operands c.args.emitter.now.code c.bind.new.self c.requires.arms c.in_ok-bind.ensures.level labels outers)
