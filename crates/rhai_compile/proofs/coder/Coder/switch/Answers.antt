use Rattle.std.proofs.Common.{◌≡◌, ℕ, ◌+◌, ◌∙◌, refl, subst, sym, arith, rules}
use Rattle.rhai_emit.specs.Places.{arm_places, arms_places, pass}
use Rattle.rhai_emit.specs.Switches.{AreArms}
use Rattle.rhai_emit.proofs.PlaceTests.{and_both, each_pass}
use Rattle.rhai_emit.proofs.ArmLabels.{arms_after}
use Rattle.rhai_compile.proofs.coder.Coder.switch.Goals as goal

pub loop-index-init : goal.loop-index-init
loop-index-init g c =
    let w = c.in_ok-dispatch.ensures.written in
    let made = c.in_ok-labels.ensures in
    let same : c.dispatch.new.self.code.operands ≡ c.expr.new.emitter.code.operands = search rules in
    let waiting : c.dispatch.new.self.code.pending + 0 ≡ c.in_ok-labels.labels.first + 1 = search rules in
    record {
      pending = waiting;
      operands = refl;
      level = refl;
      labels = λ i x e. e;
      outers = λ i x e. e;
      around = refl;
      placed = λ test these old. old;
      arms = subst (λ (n : ℕ). AreArms c.in_ok-labels.labels n c.dispatch.new.self.code) (sym same)
          (arms_after c.in_ok-labels.labels c.expr.new.emitter.code.operands c.arm_labels.new.self.code c.dispatch.new.self.code made.arms w.level w.labels w.outers);
    }

pub loop-index-preserved : goal.loop-index-preserved
loop-index-preserved g c =
    let h = c.loop-index.invariant in
    let e = c.in_ok-arm.ensures in
    record {
      pending = omega arith;
      operands = e.operands ∙ h.operands;
      level = e.level ∙ h.level;
      labels = λ i x k. e.labels i x (h.labels i x k);
      outers = λ i x k. e.outers i x (h.outers i x k);
      around = e.around ∙ h.around;
      placed = λ test these old.
          e.placed test (and_both (pass test (arms_places c.args.arms.now)) (pass test (arm_places c.index-arms-index.result)) these (each_pass arm_places test c.args.arms.now c.loop-index.index c.index-arms-index.result (omega arith) c.index-arms-index.is these))
          (h.placed test these old);
      arms = subst (λ (n : ℕ). AreArms c.in_ok-labels.labels n c.arm.new.emitter.code) (sym e.operands)
          (arms_after c.in_ok-labels.labels c.loop-index.emitter.code.operands c.loop-index.emitter.code c.arm.new.emitter.code h.arms e.level e.labels e.outers);
    }
