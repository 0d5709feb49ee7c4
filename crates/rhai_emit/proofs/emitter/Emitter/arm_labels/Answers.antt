use Rattle.std.proofs.Common.{◌≡◌, ◌∙◌, ℕ, ◌+◌, ◌≤◌, ◌<◌, Some, ap, arith, sym}
use Rattle.grain_builder.specs.Unfinished.{Level, Spot, spot}
use Rattle.rhai_emit.proofs.ArmLabels.{one_more}
use Rattle.rhai_emit.proofs.emitter.Emitter.arm_labels.Goals as goal

pub loop-arm-preserved : goal.loop-arm-preserved
loop-arm-preserved c =
    let h = c.loop-arm.invariant in
    let e = c.in_ok-first.ensures in
    let none : ℕ = c.in_ok-none.none in
    let next : c.in_ok-first.first ≡ c.loop-arm.first + 1 = e.last ∙ h.many in
    let found : ℕ → Spot = λ (k : ℕ). spot c.operands-operands.result c.label-2.new.self.level in
    let above : ℕ → Type 0 = λ (k : ℕ). none < k in
    let from : ℕ → Type 0 = λ (k : ℕ). none ≤ k in
    let own : ℕ → ℕ = λ (k : ℕ). k in
    record {
      first = let f = h.first in omega arith;
      many = let m = e.more in let n = e.last in omega arith;
      pending = e.pending;
      labels = λ i x k. e.labels i x (h.labels i x k);
      outers = λ i x k. e.outers i x (h.outers i x k);
      operands = e.operands ∙ h.operands;
      level = e.level ∙ h.level;
      scope = h.scope;
      places = e.places ∙ h.places;
      here = one_more found c.loop-arm.self.code.labels c.label-in-loop-arm.new.self.labels from c.loop-arm.first c.in_ok-first.first e.labels h.here next (e.here ∙ ap (λ (l : Level). Some (spot c.operands-operands.result l)) h.level);
      outer = one_more own c.loop-arm.self.code.outers c.label-in-loop-arm.new.self.outers above c.loop-arm.first c.in_ok-first.first e.outers h.outer next (e.outer ∙ ap (λ (k : ℕ). Some k) (h.pending ∙ sym next));
    }
