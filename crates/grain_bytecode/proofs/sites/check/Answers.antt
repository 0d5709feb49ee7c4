use Rattle.std.proofs.Common.{◌≡◌, ◌-◌, ◌<◌, ◌^◌, [], length, Ok, Err, refl, arith, rules, subst}
use Rattle.std.proofs.lemmas.Result.{err_from_is_err_and}
use Rattle.grain_base.proofs.Numbers.{begins_at}
use Rattle.grain_bytecode.specs.declared.sites.StreamError.TheVariants.{TrailingBytes}
use Rattle.grain_bytecode.proofs.Streams.{Slots, Says, says_ok, says_err, says_error, uncounted, unreadable, slots_none, slots_more, slots_broken, slots_all, slots_trail}
use Rattle.grain_bytecode.proofs.sites.check.Goals as goal
use Rattle.grain_bytecode.proofs.sites.check.Goals.{After-from_residual, After-from_residual-in_err-next_slot, In-0, In_default}

count_flaw : (c : After-from_residual) → Says c.args.stream.now c.from_residual.result
count_flaw c = says_error _ _ _ (err_from_is_err_and c.from_residual.result c.from_residual.ensures.1) (unreadable _ _ (uncounted _ _ ((c.in_err-count.ensures.error _).0 refl)))

slot_flaw : (c : After-from_residual-in_err-next_slot) → Says c.args.stream.now c.from_residual-in_err-next_slot.result
slot_flaw c = says_error _ _ _ (err_from_is_err_and c.from_residual-in_err-next_slot.result c.from_residual-in_err-next_slot.ensures.1)
    (unreadable _ _ (slots_broken _ c.in_ok-count.count c.slots._turn c.slots.at _ _ c.slots.invariant.1 (omega arith) c.in_err-next_slot.ensures.err))

pub returns-in_err-count-clause-ok : goal.returns-in_err-count-clause-ok
returns-in_err-count-clause-ok c = says_ok _ _ (count_flaw c)

pub returns-in_err-count-clause-err : goal.returns-in_err-count-clause-err
returns-in_err-count-clause-err c = says_err _ _ (count_flaw c)

pub slots-init : goal.slots-init
slots-init c =
    let fits : c.in_ok-count.count < 2 ^ 32 = search rules in
    ([], slots_none _ c.in_ok-count.count c.u32.new.at (begins_at _ _ _ _ c.in_ok-count.ensures.found fits) (c.in_ok-count.ensures.found.0))

pub returns-in_err-next_slot-clause-ok : goal.returns-in_err-next_slot-clause-ok
returns-in_err-next_slot-clause-ok c = says_ok _ _ (slot_flaw c)

pub returns-in_err-next_slot-clause-err : goal.returns-in_err-next_slot-clause-err
returns-in_err-next_slot-clause-err c = says_err _ _ (slot_flaw c)

pub slots-preserved : goal.slots-preserved
slots-preserved c =
    let ok = c.in_ok-next_slot.ensures.ok in
    (_, slots_more _ _ c.slots._turn c.slots.at c.next_slot.new.at ok.0 ok.1 _ c.slots.invariant.1 ok.2 c.in_ok-next_slot.ensures.inside)

whole : (c : In-0) → Says c.args.stream.now (Ok tt)
whole c =
    let all : c.slots._turn ≡ c.in_ok-count.count = omega arith in
    (c.slots.invariant.0, slots_all _ c.in_ok-count.count c.slots.at _ (subst (λ turns. Slots c.args.stream.now c.in_ok-count.count turns c.slots.at c.slots.invariant.0) all c.slots.invariant.1) c.in-0.is)

trailing : (c : In_default) → Says c.args.stream.now (Err (TrailingBytes (length c.args.stream.now - c.slots.at)))
trailing c =
    let all : c.slots._turn ≡ c.in_ok-count.count = omega arith in
    slots_trail _ c.in_ok-count.count c.slots.at _ (subst (λ turns. Slots c.args.stream.now c.in_ok-count.count turns c.slots.at c.slots.invariant.0) all c.slots.invariant.1) (omega arith)

pub returns-in-0-clause-ok : goal.returns-in-0-clause-ok
returns-in-0-clause-ok c = says_ok _ (Ok tt) (whole c)

pub returns-in-0-clause-err : goal.returns-in-0-clause-err
returns-in-0-clause-err c = says_err _ (Ok tt) (whole c)

pub returns-in_default-clause-ok : goal.returns-in_default-clause-ok
returns-in_default-clause-ok c = says_ok _ (Err (TrailingBytes (length c.args.stream.now - c.slots.at))) (trailing c)

pub returns-in_default-clause-err : goal.returns-in_default-clause-err
returns-in_default-clause-err c = says_err _ (Err (TrailingBytes (length c.args.stream.now - c.slots.at))) (trailing c)
