use Rattle.std.proofs.Common.{◌≡◌, ℕ, ◌+◌, List, [], get_or, length, map, subst, sym, rules}
use Rattle.std.specs.List.{Contains}
use Rattle.grain_pools.specs.declared.switch.Switch.{Switch}
use Rattle.grain_rules.specs.Code.{switch_targets}
use Rattle.grain_builder.specs.Assembled.{targets_of}
use Rattle.grain_builder.specs.Finished.{LeadAmong}
use Rattle.rhai_compile.proofs.SwitchParts.{lead_push, targets_at}
use Rattle.rhai_compile.proofs.parts.switches.Goals as goal

pub loop-place-preserved : goal.loop-place-preserved
loop-place-preserved c =
    let count : length c.push.new.self.items ≡ c.loop-place.place + 1 = search rules in
    record {
      leads = subst (λ (ss : List Switch). LeadAmong (map switch_targets ss) (map targets_of c.args.targets.now)) (sym c.in_ok-push.ensures.items)
          (lead_push c.loop-place.switches.items c.in_ok-switch.field-0 (map targets_of c.args.targets.now) c.loop-place.invariant.leads
          (λ l has. subst (λ (n : ℕ). Contains (get_or (map targets_of c.args.targets.now) n []) l) (sym c.loop-place.invariant.count)
          (subst (λ (t : List ℕ). Contains t l) (sym (targets_at c.args.targets.now c.loop-place.place c.index-targets-place.result c.loop-place-test.true c.index-targets-place.is)) (c.in_ok-switch.ensures l has))));
      count = count;
    }
