use Rattle.std.proofs.Common.{◌≡◌, ◌-◌, IfNone, IfSome, Option, ap, sym, subst, ◌∙◌, arith}
use Rattle.std.specs.Option.{option_to_list}
use Rattle.grain_verify.specs.Arrivals.{view}
use Rattle.grain_rules.specs.Capabilities.{Allows}
use Rattle.grain_rules.specs.Counts.{Base, last_base}
use Rattle.grain_rules.specs.FlowFields.{iterators_for}
use Rattle.grain_rules.specs.EffectView.{asked_in, flow}
use Rattle.grain_verify.specs.Plain.{GoesOn}
use Rattle.grain_rules.specs.Sinking.{ReachesUpTo}
use Rattle.grain_verify.specs.Visits.{CarriesFloor, IsVisited}
use Rattle.grain_code.specs.declared.flow.Flow.{Flow}
use Rattle.grain_verify.specs.declared.state.Arrival.{Arrival}
use Rattle.grain_verify.proofs.OperationsByFlow.{goes_freely, nothing_missing}
use Rattle.grain_verify.proofs.AboveLastBase.{untouched_known}
use Rattle.grain_verify.proofs.walk.Prepared.visit_by_tag.Goals as goal

pub follow_passing-requires-clause-passing : goal.follow_passing-requires-clause-passing
follow_passing-requires-clause-passing g c =
    let setting = c.args.self.now.code.setting in
    let here = c.args.here in
    let i = c.instruction-instruction.result in
    let op = c.instruction-instruction.ensures.found.0 in
    let is = c.instruction-instruction.ensures.found.2 in
    let row = c.args.row.now in
    let does = c.effect_by_row-effect.result in
    let e = c.effect_by_row-effect.ensures in
    let known = e.does op is in
    let (floor, is_floor, above) = c.requires.above in
    let counts = view c.args.lists.now here.state in
    let needed : iterators_for (flow does.flow does.target) ≡ 0 = ap (λ w. iterators_for (flow w does.target)) e.flow ∙ goes_freely c.args.flow does.target c.requires.goes_on in
    let left : Base = record { operands = counts.operands - does.takes; iterators = counts.iterators - iterators_for (flow does.flow does.target) } in
    let reaches = is_floor (here.state.operands - row.takes) (omega arith) (omega (arith, above, c.requires.row.there)) in
    record {
      op = op;
      stands = c.instruction-instruction.ensures.found.1;
      is = is;
      does = record { operands = λ s same. known.operands s; asks = known.asks; flow_is = known.flow_is };
      allowed = subst (Allows setting.caps) (ap (asked_in setting) (sym e.asks) ∙ known.asks setting) (nothing_missing setting.caps);
      there = omega (arith, e.needs, above);
      stays = λ loud. subst (ReachesUpTo (last_base counts.bases))
          (untouched_known setting op counts does.needs does.takes does.gives (flow does.flow does.target) (known.operands setting) known.flow_is)
          (record { operands = (let r = reaches.operands in omega (arith, r, e.takes)); iterators = (let r = reaches.iterators in omega (arith, r, needed)) });
    }

pub unreachable-requires : goal.unreachable-requires
unreachable-requires g c =
    let goes = c.in_ok-next.ensures.goes_on (subst GoesOn (sym c.effect_by_row-effect.ensures.flow) c.requires.goes_on) in
    subst (λ (o : Option Arrival). IfNone o ⊥) c.in-None.is goes

pub returns-clause-visited : goal.returns-clause-visited
returns-clause-visited g c =
    let new = c.follow_passing.new in
    subst (λ (o : Option Arrival). IsVisited c.args.self.now c.args.chunk.now c.args.lists.now new.lists c.args.traversal.now new.traversal c.args.here (option_to_list o)) c.in-Some.is c.in_ok-next.ensures.visited

pub returns-clause-floor : goal.returns-clause-floor
returns-clause-floor g c =
    let carries : Flow → Arrival → Type 0 = λ w a. CarriesFloor w c.args.lists.now c.follow_passing.new.lists c.args.here.state a.state in
    let known = subst (λ (o : Option Arrival). IfSome o (carries c.effect_by_row-effect.result.flow)) c.in-Some.is c.in_ok-next.ensures.floor in
    subst (λ (w : Flow). carries w c.in-Some.next) c.effect_by_row-effect.ensures.flow known
