use Rattle.std.proofs.Common.{◌≡◌, ◌⊎◌, ◌≤◌, inl, inr, ℕ, ap, refl, subst, sym, ◌∙◌}
use Rattle.std.proofs.lemmas.Result.{err_from_is_err_and}
use Rattle.grain_verify.specs.Arrivals.{view}
use Rattle.grain_rules.specs.Capabilities.{Allows}
use Rattle.grain_rules.specs.Code.{coded}
use Rattle.grain_rules.specs.Flaw.{ChunkFlaw, Comes}
use Rattle.grain_rules.specs.Typing.{StandsIn}
use Rattle.grain_rules.specs.EffectView.{flow}
use Rattle.grain_rules.specs.declared.error.VerifyError.TheVariants.{OutOfMemory}
use Rattle.grain_verify.specs.Walk.{Walked}
use Rattle.grain_verify.proofs.OperationsByFlow.{meets_known, short_state}
use Rattle.grain_verify.proofs.RefusalsAreFlaws.{refused_sinking, refused_state}
use Rattle.grain_verify.proofs.TakenArrival.{taken_inside, taken_named, taken_reached}
use Rattle.grain_verify.proofs.walk.Prepared.visit.Goals as goal

pub returns-in_err-check_needs-clause-err : goal.returns-in_err-check_needs-clause-err
returns-in_err-check_needs-clause-err g c =
    let p = err_from_is_err_and c.from_residual-in_err-check_needs.result c.from_residual-in_err-check_needs.ensures.1 in
    let self = c.args.self.now in
    let code = self.code in
    let chunk = c.args.chunk.now in
    let here = c.args.here in
    let before = c.args.lists.now in
    let halts = c.requires.marked.halts in
    let op = c.instruction-instruction.ensures.found.0 in
    let known = c.effect_of-effect.ensures op c.instruction-instruction.ensures.found.2 in
    let asked = c.in_ok-asks.ensures.asks code.setting (ap (λ (p : Walked). p.code.setting.facts) (sym c.self.view_is)) ∙ known.asks code.setting in
    let stands = c.instruction-instruction.ensures.found.1 in
    let refused = c.in_err-check_needs.ensures.err op before asked (ap (λ (e : ℕ × ℕ × ℕ). e.0) (known.operands code.setting refl)) in
    let comes : Comes code chunk here.at op (view before here.state) = record { reached = taken_reached _ _ halts.1.is; stands = record { within = taken_inside _ _ halts.1.is halts.1.within; is = stands } } in
    rw (p.1, p.2) (inr (refused_state code chunk here.at op (view before here.state) c.in_err-check_needs.field-0.0 c.requires.marked.framed comes refused))

pub check_stays-requires-clause-list : goal.check_stays-requires-clause-list
check_stays-requires-clause-list g c =
    let halts = c.requires.marked.halts in
    taken_named _ _ halts.1.is

pub returns-in_err-check_stays-clause-err : goal.returns-in_err-check_stays-clause-err
returns-in_err-check_stays-clause-err g c =
    let p = err_from_is_err_and c.from_residual-in_err-check_stays.result c.from_residual-in_err-check_stays.ensures.1 in
    let e = c.in_err-check_stays.field-0.0 in
    let self = c.args.self.now in
    let code = self.code in
    let chunk = c.args.chunk.now in
    let here = c.args.here in
    let before = c.args.lists.now in
    let counts = view before here.state in
    let halts = c.requires.marked.halts in
    let op = c.instruction-instruction.ensures.found.0 in
    let does = c.effect_of-effect.result in
    let known = c.effect_of-effect.ensures op c.instruction-instruction.ensures.found.2 in
    let asked = c.in_ok-asks.ensures.asks code.setting (ap (λ (p : Walked). p.code.setting.facts) (sym c.self.view_is)) ∙ known.asks code.setting in
    let found = c.in_ok-check_needs.ensures in
    let allowed = subst (Allows code.setting.caps) asked found.allowed in
    let stands : StandsIn (coded code) chunk here.at op = record { within = taken_inside _ _ halts.1.is halts.1.within; is = c.instruction-instruction.ensures.found.1 } in
    let comes : Comes code chunk here.at op counts = record { reached = taken_reached _ _ halts.1.is; stands = stands } in
    let there = subst (λ n. n ≤ here.state.operands) (ap (λ (e : ℕ × ℕ × ℕ). e.0) (known.operands code.setting refl)) found.there in
    rw (p.1, p.2) (elim (c.in_err-check_stays.ensures.err code.setting op c.instruction-instruction.ensures.found.2 (known.operands code.setting refl) known.flow_is) as (λ _.
    (e ≡ OutOfMemory) ⊎ ChunkFlaw code chunk e) [
      | inl short ↦ inr (refused_state code chunk here.at op counts e c.requires.marked.framed comes (short_state code op here.at counts (flow does.flow does.target) e known.flow_is allowed short))
      | inr (met, sinks) ↦ inr (refused_sinking code chunk here.at op counts e c.requires.marked.framed comes allowed (meets_known code.setting op counts (flow does.flow does.target) known.flow_is there met) sinks)
    ])

pub follow_passing-requires-clause-passing : goal.follow_passing-requires-clause-passing
follow_passing-requires-clause-passing g c =
    let code = c.args.self.now.code in
    let op = c.instruction-instruction.ensures.found.0 in
    let known = c.effect_of-effect.ensures op c.instruction-instruction.ensures.found.2 in
    let asked = c.in_ok-asks.ensures.asks code.setting (ap (λ (p : Walked). p.code.setting.facts) (sym c.self.view_is)) ∙ known.asks code.setting in
    let found = c.in_ok-check_needs.ensures in
    record {
      op = op;
      stands = c.instruction-instruction.ensures.found.1;
      is = c.instruction-instruction.ensures.found.2;
      does = known;
      allowed = subst (Allows code.setting.caps) asked found.allowed;
      there = found.there;
      stays = c.in_ok-check_stays.ensures.stays code.setting op c.instruction-instruction.ensures.found.2 (known.operands code.setting refl) known.flow_is;
    }
