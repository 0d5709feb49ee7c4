use Rattle.std.proofs.Common.{◌≡◌, ℕ, subst, sym, rules}
use Rattle.rhai_emit.specs.Switches.{AreArms}
use Rattle.rhai_emit.proofs.ArmLabels.{arms_after}
use Rattle.rhai_compile.proofs.coder.Coder.condition.Goals as goal

pub dispatch-requires-clause-arms : goal.dispatch-requires-clause-arms
dispatch-requires-clause-arms g c =
    let made = c.in_ok-body.ensures in
    let condition = c.in_ok-expr.ensures.written in
    let jumped = c.in_ok-jump_where.ensures.written in
    let same : c.jump_where.new.self.code.operands ≡ c.args.emitter.now.code.operands = search rules in
    subst (λ (n : ℕ). AreArms c.args.labels.now n c.jump_where.new.self.code) (sym same)
    (arms_after c.args.labels.now c.args.emitter.now.code.operands c.expr.new.emitter.code c.jump_where.new.self.code
    (arms_after c.args.labels.now c.args.emitter.now.code.operands c.label.new.self c.expr.new.emitter.code
    (arms_after c.args.labels.now c.args.emitter.now.code.operands c.args.emitter.now.code c.label.new.self c.requires.arms made.level made.labels made.outers)
    condition.level condition.labels condition.outers)
    jumped.level jumped.labels jumped.outers)
