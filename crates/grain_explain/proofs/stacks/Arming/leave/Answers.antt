use Rattle.std.proofs.Common.{◌≡◌, ◌≤◌, List, length, ap, refl, sym, subst, ◌∙◌, arith}
use Rattle.grain_code.specs.declared.flow.Flow.{Flow}
use Rattle.grain_code.specs.declared.flow.Flow.TheVariants.{PushesHandler}
use Rattle.grain_rules.specs.EffectView.{flow, flow_in}
use Rattle.grain_rules.specs.FlowFields.{fall_for, jump_for}
use Rattle.grain_explain.specs.Claimed.{falling_on}
use Rattle.grain_explain.specs.OnEdges.{counts_on, left_by}
use Rattle.grain_explain.specs.RowView.{counts_of}
use Rattle.grain_explain.specs.declared.row.LinkedBase.{LinkedBase}
use Rattle.grain_explain.proofs.BaseExtension.{counts_kept, edge_kept, extends_twice, lands_more, longer}
use Rattle.grain_explain.proofs.stacks.Arming.leave.Goals as goal

pub returns-clause-leaves : goal.returns-clause-leaves
returns-clause-leaves c =
    let old = c.args.self.now.bases.items in
    let mid = c.land.new.self.bases.items in
    let new = c.land-2.new.self.bases.items in
    let row = c.args.row.now in
    let effect = c.args.effect.now in
    let first = c.in_ok-jump.ensures.extends in
    let second = c.in_ok-fall.ensures.extends in
    let both = extends_twice old mid new first second in
    let more = longer old mid c.requires.linked first in
    let listed : row.bases ≤ length mid = omega (arith, c.requires.listed) in
    let jump_edge = c.to_targets-jump.result in
    let jump = lands_more mid new first.linked second c.in_ok-jump.jump (counts_on old jump_edge) c.in_ok-jump.ensures.lands in
    let jump_same = sym (edge_kept old new c.requires.linked both jump_edge (c.to_targets-jump.ensures.listed old c.requires.listed)) ∙ c.to_targets-jump.ensures.counts new in
    let fall = c.in_ok-fall.ensures.lands in
    let fall_counts = subst (λ (bs : List LinkedBase). counts_on bs c.to_next-fall.result ≡ falling_on bs row effect) c.deref.ensures.value c.to_next-fall.ensures.counts in
    let kept = ap (fall_for (flow_in effect) (left_by effect row.operands)) (sym (counts_kept mid new first.linked second row listed)) in
    record {
      jump = record { listed = jump.listed; is = jump.is ∙ jump_same };
      fall = record { listed = fall.listed; is = fall.is ∙ (fall_counts ∙ kept) };
    }

-- a handler is armed on both edges
pub returns-then-arms_handler-clause-leaves : goal.returns-then-arms_handler-clause-leaves
returns-then-arms_handler-clause-leaves c =
    let old = c.args.self.now.bases.items in
    let new = c.land.new.self.bases.items in
    let row = c.args.row.now in
    let effect = c.args.effect.now in
    let extends = c.in_ok-jump.ensures.extends in
    let jump_edge = c.to_targets-jump.result in
    let jump = c.in_ok-jump.ensures.lands in
    let jump_same = sym (edge_kept old new c.requires.linked extends jump_edge (c.to_targets-jump.ensures.listed old c.requires.listed)) ∙ c.to_targets-jump.ensures.counts new in
    let left = left_by effect row.operands in
    let P : Flow → Type 0 = λ way. jump_for (flow way effect.target) left (counts_of new row) ≡ fall_for (flow way effect.target) left (counts_of new row) in
    let arms : effect.flow ≡ PushesHandler = c.arms_handler.ensures.0 c.if-arms_handler.true in
    record {
      jump = record { listed = jump.listed; is = jump.is ∙ jump_same };
      fall = record { listed = jump.listed; is = jump.is ∙ (jump_same ∙ subst P (sym arms) refl) };
    }
