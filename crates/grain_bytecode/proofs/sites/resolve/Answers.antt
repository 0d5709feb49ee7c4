use Rattle.std.proofs.Common.{◌≡◌, ◌<◌, ◌^◌, [], refl, sym, subst, ◌∙◌, arith, rules}
use Rattle.grain_base.proofs.Numbers.{begins_at}
use Rattle.grain_bytecode.proofs.Streams.{Slots, slots_none, slots_more, unrecorded, recorded, past_count, broken_before, nothing_recorded}
use Rattle.grain_bytecode.proofs.sites.resolve.Goals as goal

pub returns-in_default : goal.returns-in_default
returns-in_default c = nothing_recorded c.args.stream.now c.args.slot _ refl (λ site. unrecorded _ [] _ _ c.args.slot site refl (omega arith) ((c.in_default.ensures.error _).0 refl))

pub returns-then-slot-count : goal.returns-then-slot-count
returns-then-slot-count c =
    let fits : c.in-Ok.count < 2 ^ 32 = search rules in
    nothing_recorded c.args.stream.now c.args.slot _ refl (λ site. past_count _ c.in-Ok.count c.args.slot _ site (begins_at _ 0 c.in-Ok.count _ c.in-Ok.ensures.found fits) c.if-slot-count.true)

pub slots-init : goal.slots-init
slots-init c =
    let fits : c.in-Ok.count < 2 ^ 32 = search rules in
    ([], slots_none _ c.in-Ok.count c.u32.new.at (begins_at _ _ _ _ c.in-Ok.ensures.found fits) c.in-Ok.ensures.found.0)

pub returns-in_default-next_slot : goal.returns-in_default-next_slot
returns-in_default-next_slot c =
    nothing_recorded c.args.stream.now c.args.slot _ refl (λ site. broken_before _ _ c.slots._turn c.args.slot c.slots.at _ _ site c.slots.invariant.1 (omega arith) c.in_default-next_slot.ensures.err)

pub slots-preserved : goal.slots-preserved
slots-preserved c =
    let ok = c.in-Ok-next_slot.ensures.ok in
    (_, slots_more _ _ c.slots._turn c.slots.at c.next_slot.new.at ok.0 ok.1 _ c.slots.invariant.1 ok.2 c.in-Ok-next_slot.ensures.inside)

pub returns-in-Ok-next_slot-2 : goal.returns-in-Ok-next_slot-2
returns-in-Ok-next_slot-2 c site =
    let ok = c.in-Ok-next_slot-2.ensures.ok in
    let all : c.slots._turn ≡ c.args.slot = omega arith in
    let found = recorded c.args.stream.now c.in-Ok.count c.args.slot c.slots.at c.next_slot-2.new.at ok.0 ok.1 c.slots.invariant.0
    (subst (λ turns. Slots c.args.stream.now c.in-Ok.count turns c.slots.at c.slots.invariant.0) all c.slots.invariant.1) (omega arith) ok.2 site in
    (λ e. found.0 (sym ok.3 ∙ e), λ records. ok.3 ∙ found.1 records)

pub returns-in-Err : goal.returns-in-Err
returns-in-Err c = nothing_recorded c.args.stream.now c.args.slot _ refl (λ site. broken_before _ _ c.slots._turn c.args.slot c.slots.at _ _ site c.slots.invariant.1 (omega arith) c.in-Err.ensures.err)
