use Rattle.std.proofs.Common.{rules, ◌≡◌, ◌<◌, ◌≤◌, map, length, Some, refl, sym, ap, ◌∙◌, arith, slice_set, slice_index_or}
use Rattle.std.specs.List.{Contains}
use Rattle.std.proofs.lemmas.List.{map-set, get_or-map, length-map}
use Rattle.std.proofs.lemmas.List.Edits.{map_over_more}
use Rattle.std.proofs.lemmas.List.Elements.{AllWithin-more, at_read}
use Rattle.grain_pools.specs.declared.switch.Switch.{Switch}
use Rattle.grain_pools.specs.Dispatch.{Arms, arms, arm_targets, first_past, resolved, AreWithin}
use Rattle.grain_pools.proofs.FirstPast.{past_none, past_some}
use Rattle.grain_bytecode.proofs.switch_targets.resolve_switch_targets.Goals as goal

pub loop-table-preserved : goal.loop-table-preserved
loop-table-preserved c =
    let n = length c.args.offsets.now in
    let i = c.loop-table.table in
    let item = c.switch-item.result in
    let inside : i < length c.args.switches.now = omega arith in
    let fits : AreWithin n (arms item) = past_none n (arm_targets (arms item)) (search rules) in
    AllWithin-more (λ s. AreWithin n (arms s)) c.args.switches.now 0 i c.loop-table.invariant (at_read c.args.switches.now (λ s. AreWithin n (arms s)) i item inside c.switch-item.is fits)

pub returns-in-Some-clause-err : goal.returns-in-Some-clause-err
returns-in-Some-clause-err c =
    let i = c.loop-table.table in
    let t = c.in-Some.target in
    let n = length c.args.offsets.now in
    let item = c.switch-item.result in
    let inside : i < length c.args.switches.now = omega arith in
    let is : first_past n (arm_targets (arms item)) ≡ Some t = search rules in
    let found : Contains (arm_targets (arms item)) t × (n ≤ t) = past_some n t (arm_targets (arms item)) is in
    (refl, (i, t, refl, record { before = c.loop-table.invariant; inside = inside; here = at_read c.args.switches.now (λ s. Contains (arm_targets (arms s)) t) i item inside c.switch-item.is found.0; past = found.1 }))

pub loop-switch-preserved : goal.loop-switch-preserved
loop-switch-preserved c =
    let i = c.loop-switch.switch-index in
    let ys = c.loop-switch.switches in
    let xs = c.args.switches.now in
    let item = c.switch-item-in-loop-switch.result in
    let new = c.resolve.new.switch in
    let inside : i < length ys = omega arith in
    let all : i < length (map arms xs) = rw length-map (omega arith) in
    let here : arms item ≡ slice_index_or (map arms ys) i (arms item) =
    ap arms c.switch-item-in-loop-switch.is ∙ sym (get_or-map arms ys i item (arms item) inside) in
    let wrote : arms new ≡ resolved c.args.offsets.now (arms item) =
    c.resolve.ensures ∙ ap (λ (s : Switch). resolved c.args.offsets.now (arms s)) (sym c.switch-item-in-loop-switch.is) in
    map-set arms ys i new ∙ ap (λ (x : Arms). slice_set (map arms ys) i x) wrote
    ∙ map_over_more (resolved c.args.offsets.now) (map arms xs) (map arms ys) i (arms item) all c.loop-switch.invariant here
