use Rattle.std.proofs.Common.{◌≡◌, ◌⊎◌, ◌+◌, ◌-◌, ◌∷◌, ◌++◌, IfErr, IfOk, inl, inr, length, refl, subst, sym, arith}
use Rattle.std.specs.Option.{option_to_list}
use Rattle.std.specs.List.{Contains}
use Rattle.grain_code.specs.InstructionTable.{width_of}
use Rattle.grain_code.proofs.Instructions.{instr_width}
use Rattle.grain_verify.specs.Arrivals.{view}
use Rattle.grain_rules.specs.Code.{coded}
use Rattle.grain_rules.specs.Flaw.{ChunkFlaw}
use Rattle.grain_rules.specs.Flow.{Flow}
use Rattle.grain_rules.specs.FlowFields.{targets_for}
use Rattle.grain_rules.specs.Rows.{caps_of}
use Rattle.grain_verify.specs.FlowView.{IsFollowed, IsMetBy, RefusesFlow}
use Rattle.grain_rules.specs.EffectView.{flow}
use Rattle.grain_rules.specs.Typing.{StandsIn}
use Rattle.grain_rules.specs.declared.error.VerifyError.TheVariants.{OutOfMemory}
use Rattle.grain_verify.specs.Walk.{Walked}
use Rattle.grain_verify.proofs.OperationsByFlow.{passes_known, short_state}
use Rattle.grain_verify.proofs.OutDegree.{followed_few}
use Rattle.grain_verify.proofs.Ordinals.{ordinal_low}
use Rattle.grain_verify.proofs.RefusalsAreFlaws.{all_ok, err_so, refused_state, refused_target}
use Rattle.grain_rules.proofs.Splits.{boundary_apart}
use Rattle.grain_verify.proofs.TakenArrival.{taken_inside, taken_named, taken_place, taken_reached, taken_room, taken_small}
use Rattle.grain_verify.proofs.VisitStep.{refused_switch, visited}
use Rattle.grain_verify.proofs.walk.Prepared.follow_passing.Goals as goal

pub follow-requires-clause-long : goal.follow-requires-clause-long
follow-requires-clause-long g c =
    subst (λ (p : Walked). length c.args.traversal.now.sent ≡ length p.code.switches) (sym c.self.view_is) c.requires.marked.halts.1.is.fits.sent

pub follow-requires-clause-list : goal.follow-requires-clause-list
follow-requires-clause-list g c =
    let halts = c.requires.marked.halts in
    taken_named _ _ halts.1.is

pub follow-requires-clause-lists_room : goal.follow-requires-clause-lists_room
follow-requires-clause-lists_room g c =
    let halts = c.requires.marked.halts in
    let room = taken_room _ _ halts.1.is halts.1.within c.requires.marked.ready halts.1.fresh in
    let few = halts.1.is.known.few in
    let fits = halts.1.addresses in
    omega (arith, room, few, fits)

pub follow-requires-clause-operands_room : goal.follow-requires-clause-operands_room
follow-requires-clause-operands_room g c =
    let halts = c.requires.marked.halts in
    let s = taken_small _ _ halts.1.is halts.1.within c.requires.marked.ready halts.1.fresh in
    let fits = halts.1.addresses in
    omega (arith, s.0)

pub follow-requires-clause-iterators_room : goal.follow-requires-clause-iterators_room
follow-requires-clause-iterators_room g c =
    let halts = c.requires.marked.halts in
    let s = taken_small _ _ halts.1.is halts.1.within c.requires.marked.ready halts.1.fresh in
    let fits = halts.1.addresses in
    omega (arith, s.1)

pub follow-requires-clause-room : goal.follow-requires-clause-room
follow-requires-clause-room g c =
    let self = c.args.self.now in
    let i = c.args.instruction.now in
    let op = c.requires.passing.op in
    let halts = c.requires.marked.halts in
    let within = taken_inside _ _ halts.1.is halts.1.within in
    let apart = boundary_apart self.code.bytes c.args.here.at c.args.chunk.now.end op within.place c.requires.marked.framed.end c.requires.passing.stands within.end in
    let wide = instr_width (i.tag ∷ i.fields.now) op c.requires.passing.is in
    let fits = halts.1.addresses in
    omega (arith, apart, wide, c.width.ensures)

pub follow-requires-clause-ordinal_room : goal.follow-requires-clause-ordinal_room
follow-requires-clause-ordinal_room g c =
    let self = c.args.self.now in
    let halts = c.requires.marked.halts in
    let place = taken_place _ _ halts.1.is halts.1.within in
    let low = ordinal_low self.code.bytes self.starts c.requires.marked.ready.starts c.args.here.ordinal c.args.here.at place in
    omega (arith, low)

pub returns-clause-err : goal.returns-clause-err
returns-clause-err g c =
    let self = c.args.self.now in
    let code = self.code in
    let chunk = c.args.chunk.now in
    let here = c.args.here in
    let t = c.args.traversal.now in
    let before = c.args.lists.now in
    let counts = view before here.state in
    let halts = c.requires.marked.halts in
    let op = c.requires.passing.op in
    let does = c.args.effect in
    let known = c.requires.passing.does in
    let operands = known.operands code.setting refl in
    let found = c.requires.passing in
    let reached = taken_reached _ _ halts.1.is in
    let stands : StandsIn (coded code) chunk here.at op = record { within = taken_inside _ _ halts.1.is halts.1.within; is = c.requires.passing.stands } in
    let stays = c.requires.passing.stays in
    let passes = λ (met : IsMetBy (flow does.flow does.target) counts). passes_known code chunk here.at op counts (caps_of code.setting op) does.needs does.takes does.gives (flow does.flow does.target)
    stands refl operands known.flow_is found.allowed found.there met stays in
    err_so c.follow.result (λ e refused. elim refused as (λ _. (e ≡ OutOfMemory) ⊎ ChunkFlaw code chunk e) [
      | inl short ↦ inr (refused_state code chunk here.at op counts e c.requires.marked.framed (record { reached = reached; stands = stands })
          (short_state code op here.at counts (flow does.flow does.target) e known.flow_is found.allowed short))
      | inr (met, inl (inl m)) ↦ inl m
      | inr (met, inl (inr (x, named, bad))) ↦ inr (refused_target code self.starts chunk here.at x e c.requires.marked.ready.starts c.requires.marked.framed
          (record { counts = counts; op = op; reached = reached; passes = passes met; names = subst (λ (f : Flow). Contains (targets_for code.switches f) x) known.flow_is named }) bad)
      | inr (met, inr unlike) ↦ inr (refused_switch self chunk t before here halts.0 op does.needs does.takes does.gives (flow does.flow does.target) e c.requires.marked.framed halts.1
          operands known.flow_is (passes met) unlike)
    ]) (subst (λ (p : Walked). IfErr c.follow.result (RefusesFlow p.starts chunk p.code.switches here.at counts (record here.state { operands = here.state.operands - does.takes + does.gives })
    t.sent (flow does.flow does.target))) c.self.view_is c.follow.ensures.err)

pub returns-clause-visited : goal.returns-clause-visited
returns-clause-visited g c =
    let self = c.args.self.now in
    let code = self.code in
    let before = c.args.lists.now in
    let new = c.follow.new.traversal in
    let i = c.args.instruction.now in
    let op = c.requires.passing.op in
    let does = c.args.effect in
    let known = c.requires.passing.does in
    let operands = known.operands code.setting refl in
    let found = c.requires.passing in
    let wide : c.width.result ≡ width_of op = let e = c.width.ensures in let w = instr_width (i.tag ∷ i.fields.now) op found.is in omega arith in
    let done = c.follow.ensures in
    all_ok c.follow.result done.grows done.met done.states done.long (λ next grows met states long followed. record {
      walking = λ deepest halts. visited self c.args.chunk.now c.args.traversal.now new c.args.here deepest op c.width.result c.requires.marked.ready c.requires.marked.framed before
          c.follow.new.lists grows halts found.stands wide (caps_of code.setting op) does.needs does.takes does.gives (flow does.flow does.target) (new.work.items ++ option_to_list next)
          refl operands known.flow_is found.allowed found.there met found.stays followed states long;
      states = states;
      few = followed_few _ c.args.chunk.now _ _ _ _ _ _ _ _ _ c.args.traversal.now.work.items (new.work.items ++ option_to_list next) followed;
    }) (subst (λ (p : Walked). IfOk c.follow.result (λ next. IsFollowed p.starts c.args.chunk.now p.code.switches (flow does.flow does.target) (c.args.here.state.operands - does.takes + does.gives)
    c.args.here c.width.result before c.follow.new.lists c.args.traversal.now.sent new.sent c.args.traversal.now.work.items (new.work.items ++ option_to_list next))) c.self.view_is done.followed)
