use Rattle.std.proofs.Common.{sym, arith}
use Rattle.grain_pools.proofs.Slots.{front_slots, slot_inside, step_slot_is}
use Rattle.grain_pools.proofs.chain.Chain.step_slot.Goals as goal

pub slots_of-requires : goal.slots_of-requires
slots_of-requires c = rw c.deref.ensures.value (omega (arith, front_slots c.args.self.now c.args.index))

pub overflow_add-result : goal.overflow_add-result
overflow_add-result c =
    let slots = rw c.deref.ensures.value at c.slots_of.ensures in
    omega (arith, slots, front_slots c.args.self.now c.args.index)

pub returns-then-index-len-clause-slot : goal.returns-then-index-len-clause-slot
returns-then-index-len-clause-slot c =
    let slots = rw c.deref.ensures.value at c.slots_of.ensures in
    rw (c.position_slots.ensures, slots) (sym (step_slot_is c.args.self.now c.args.index (omega arith)))

pub returns-then-index-len-clause-inside : goal.returns-then-index-len-clause-inside
returns-then-index-len-clause-inside c =
    let slots = rw c.deref.ensures.value at c.slots_of.ensures in
    rw (c.position_slots.ensures, slots) (slot_inside c.args.self.now c.args.index (omega arith))
